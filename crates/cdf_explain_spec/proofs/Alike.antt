-- A unit is judged alike where the bytes up to its own data's end are the same, and as many are left.
use Rattle.std.proofs.Common.{ℕ, zero, suc, ◌+◌, ◌-◌, ◌≤◌, ◌<◌, ◌≡◌, refl, sym, ap, ◌∙◌, Bool, true, not, List, arith, ltb, length, take, drop}
use Rattle.std.proofs.Common.{get_or, set, length-take, length-drop, length-set, get_or-take, take-take, get_or-set_same}
use Rattle.std.proofs.lemmas.List.{take-set-le}
use Rattle.cdf_unit_table.specs.Ids.{known}
use Rattle.cdf_unit_table.proofs.Bools.{past, clash}
use Rattle.cdf_unit_table.proofs.Parts.{drop-take, minus_plus}
use Rattle.cdf_unit_prefix.specs.Layout.{Layout, prefix_of, number_at, marked, length_at, action_at, id_at, length_fits}
use Rattle.cdf_unit_prefix.specs.Rules.{head_of, Stop, Prefix}
use Rattle.cdf_unit_data.specs.Claims.{Agree}
use Rattle.cdf_unit_data.proofs.Fronts.{own_same}
use Rattle.cdf_unit_judge.specs.Judge.{judge_of, Found}
use Rattle.cdf_unit_judge.proofs.Placed.{headed, placed, judged}

-- Bytes that agree up to m.
module _ (m : ℕ) (s t : List ℕ) (a : Agree m s t) where
  pub agree_front : (k : ℕ) → k ≤ m → take k t ≡ take k s
  agree_front k h = sym (take-take k m t h) ∙ ap (take k) a.1 ∙ take-take k m s h

  agree_byte : (i : ℕ) → i < m → get_or t i 0 ≡ get_or s i 0
  agree_byte i h = sym (get_or-take m t i 0 h) ∙ ap (λ (x : List ℕ). get_or x i 0) a.1 ∙ get_or-take m s i 0 h

  -- So do their parts.
  pub agree_part : (p k n : ℕ) → p + k ≤ m → k ≤ n → Agree k (take n (drop p s)) (take n (drop p t))
  agree_part p k n h few = (long, front t ∙ ap (drop p) (agree_front (p + k) h) ∙ sym (front s))
    where
      long : length (take n (drop p t)) ≡ length (take n (drop p s))
      long = simp (length-take, length-drop) (rw a.0)

      front : (r : List ℕ) → take k (take n (drop p r)) ≡ drop p (take (p + k) r)
      front r = take-take k n (drop p r) few ∙ sym (drop-take p (p + k) r ∙ rw (minus_plus k p))

  number_same : (k at : ℕ) → at + k ≤ m → number_at k at t ≡ number_at k at s
  unfolding number_at
  number_same zero at h = refl
  number_same (suc k) at h = rw (number_same k at (omega arith), agree_byte (at + k) (omega arith))

  module _ (l : Layout) where
    mark_same : 2 ≤ m → marked l t ≡ marked l s
    unfolding marked
    mark_same h = rw (agree_byte 0 (omega arith), agree_byte 1 (omega arith))

    length_same : 2 + l.length_bytes ≤ m → length_at l t ≡ length_at l s
    unfolding length_at
    length_same h = number_same l.length_bytes 2 h

    action_same : prefix_of l - 2 < m → action_at l t ≡ action_at l s
    unfolding action_at
    action_same h = agree_byte (prefix_of l - 2) h

    id_same : prefix_of l ≤ m → id_at l t ≡ id_at l s
    unfolding id_at
    id_same h = agree_byte (prefix_of l - 1) (omega arith)

-- With another id in the place of its own, a prefix that passes 3 to 6 still does.
module _ (l : Layout) (root : Bool) (t : List ℕ) (id : ℕ) where
  abbrev pub exchanged : List ℕ
  exchanged = set t (prefix_of l - 1) id

  before_id : Agree (prefix_of l - 1) t exchanged
  before_id = (length-set t (prefix_of l - 1) id, take-set-le (prefix_of l - 1) t (prefix_of l - 1) id (omega arith))

  pub head_exchanged : (was action len : ℕ) → head_of l root t ≡ Prefix was action len → known id ≡ true →
      head_of l root exchanged ≡ Prefix id action len
  unfolding head_of id_at
  head_exchanged was action len q may =
      let e1 = past (ltb (length t) (prefix_of l)) (Stop 3) _ (stop 3) q in
      let e2 = past (not (marked l t)) (Stop 4) _ (stop 4) e1.1 in
      let e3 = past (ltb (length_at l t) (prefix_of l)) (Stop 5) _ (stop 5) e2.1 in
      let e4 = past (not (length_fits l root (length t) (length_at l t))) (Stop 5) _ (stop 5) e3.1 in
      let h = headed l root t was action len q in
      let place : prefix_of l - 1 < length t = omega (arith, h.low, h.fit.high) in
      rw (
        length-set t (prefix_of l - 1) id,
        mark_same (prefix_of l - 1) t exchanged before_id l (omega arith),
        length_same (prefix_of l - 1) t exchanged before_id l (omega arith),
        action_same (prefix_of l - 1) t exchanged before_id l (omega arith),
        get_or-set_same t (prefix_of l - 1) id 0 place,
        e1.0,
        e2.0,
        e3.0,
        e4.0,
        may,
        ← h.is_action,
        ← h.is_length,
      )
    where
      stop : (n : ℕ) → Stop n ≡ Prefix was action len → ⊥
      stop n e = clash cc

-- A unit that was found is found with other bytes behind its own data too.
pub judge_same : (l : Layout) (root : Bool) (state : ℕ) (s t : List ℕ) {id action own len next : ℕ} → Agree own s t →
    judge_of l root state s ≡ Found id action own len next → judge_of l root state t ≡ Found id action own len next
judge_same l root state s t {id} {action} {own} {len} {next} a e =
    let p = placed l root state s e in
    let room = p.room in
    let inside = p.inside in
    let k = own - prefix_of l in
    let whole : prefix_of l + k ≤ own = omega arith in
    let part = agree_part own s t a (prefix_of l) k (len - prefix_of l) whole (omega arith) in
    judged l root state t (record {
      mark = mark_same own s t a l (omega arith) ∙ p.mark;
      is_id = p.is_id ∙ sym (id_same own s t a l room);
      is_action = p.is_action ∙ sym (action_same own s t a l (omega arith));
      is_length = p.is_length ∙ sym (length_same own s t a l (omega arith));
      recognised = p.recognised;
      may = p.may;
      some = p.some;
      allowed = p.allowed;
      taken = own_same id (take (len - prefix_of l) (drop (prefix_of l) s)) (take (len - prefix_of l) (drop (prefix_of l) t)) k part p.taken;
      room = room;
      inside = inside;
      high = rw a.0 p.high;
      whole = λ r. rw a.0 (p.whole r);
      short = p.short;
    })
