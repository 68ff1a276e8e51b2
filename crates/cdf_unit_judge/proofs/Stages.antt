-- The judge's answer by the stages of the code: the prefix, the admission, the body; and for a root, whose body is its action alone.
use Rattle.std.proofs.Common.{ℕ, ◌+◌, ◌-◌, ◌≤◌, arith, ◌≡◌, refl, sym, ap, subst, ◌∙◌, Bool, true, false, cond, List, [], ◌∷◌, eq-eqb, ne_eqb, T, eqb}
use Rattle.std.proofs.Common.{length, take, drop}
use mathlib.Core.Bool.{or-false}
use Rattle.cdf_unit_prefix.specs.Layout.{Layout, prefix_of}
use Rattle.cdf_unit_table.specs.States.{admit, admits, root_kind, nothing}
use Rattle.cdf_unit_table.specs.Ids.{member, stream, er_group, file_group, action_allowed}
use Rattle.cdf_unit_data.specs.Data.{Own, NameBytes, name_bytes, own_data_by}
use Rattle.std.specs.Prelude.{Ok, Err}
use Rattle.cdf_unit_prefix.specs.Rules.{head_of, Head, Stop, Prefix}
use Rattle.cdf_unit_judge.specs.Judge.{body_of, body_by, data_body, found_by, judge_head, judge_by, judge_in, judge_of, Body, Action, Data, Whole, Fault, Found}
use Rattle.cdf_unit_judge.proofs.Placed.{headed, offends}
use Rattle.cdf_unit_table.proofs.Match.{each, among}
use Rattle.cdf_unit_table.proofs.Rows.{admits_root, root_kind_lem, root_opens}
use Rattle.cdf_unit_table.proofs.Bools.{clash}

-- h is what the prefix is found to say.
module _ (l : Layout) (root : Bool) (s : List ℕ) (h : Head) (head : h ≡ head_of l root s) where
  -- a prefix that passes: the unit's bytes begin with it and are there
  pub bounds : {id action len : ℕ} → h ≡ Prefix id action len → (prefix_of l ≤ len) × (len ≤ length s)
  bounds e = let w = headed l root s _ _ _ (sym head ∙ e) in (w.low, w.fit.high)

  -- by any admission
  module _ (w : NameBytes) (admission : ℕ → ℕ) where
    by_head : judge_head w l admission s h ≡ judge_by w l root admission s
    unfolding judge_by
    by_head = ap (judge_head w l admission s) head

    pub stopped : {n : ℕ} → h ≡ Stop n → Fault n 0 ≡ judge_by w l root admission s
    unfolding judge_head
    stopped e = rw e at by_head

    module _ {id action len : ℕ} (e : h ≡ Prefix id action len) (next : ℕ) (may : next ≡ admission id) where
      pub refused : next ≡ 0 → Fault 7 0 ≡ judge_by w l root admission s
      unfolding judge_head
      refused z = rw (e, ← may, eq-eqb next 0 z) at by_head

      -- The prefix has p bytes.
      pub admitted : (next ≡ 0 → ⊥) → (p : ℕ) → p ≡ prefix_of l →
          found_by l id action len next (body_by w id action (take (len - p) (drop p s))) ≡ judge_by w l root admission s
      unfolding judge_head
      admitted some p q = rw q (rw (e, ← may, ne_eqb next 0 some) at by_head)

-- The rows admit.
pub in_is : (w : NameBytes) (l : Layout) (root : Bool) (state : ℕ) (s : List ℕ) → judge_by w l root (admits root state) s ≡ judge_in w l root state s
unfolding judge_in
in_is w l root state s = refl

pub nested_is : (w : NameBytes) (l : Layout) (state : ℕ) (s : List ℕ) → judge_by w l false (admit state) s ≡ judge_in w l false state s
unfolding judge_in
nested_is w l state s = refl

-- A root has the action none and no own data.
record Root (id : ℕ) : Type 0 where
  acts : (action : ℕ) → action_allowed id action ≡ eqb action 0
  own : (w : NameBytes) (t : List ℕ) → own_data_by w id t ≡ Ok 0

root_is : (id : ℕ) → root_kind id ≡ true → Root id
unfolding root_kind member action_allowed own_data_by
root_is id e =
    let kinds = stream ∷ er_group ∷ file_group ∷ [] in
    let root : (k : ℕ) → ((a : ℕ) → action_allowed k a ≡ eqb a 0) → ((w : NameBytes) (t : List ℕ) → own_data_by w k t ≡ Ok 0) → Root k =
    λ k a o. record { acts = a; own = o } in
    each Root kinds (
      root stream (λ a. or-false (eqb a 0)) (λ w t. refl),
      (root er_group (λ a. or-false (eqb a 0)) (λ w t. refl), (root file_group (λ a. or-false (eqb a 0)) (λ w t. refl), tt)),
    ) id (among kinds id id (subst T (sym e) tt) refl)

-- So no byte of a root's own data offends: a unit of which one does is nested.
pub root_whole : (w : NameBytes) (root : Bool) (state id action : ℕ) (t : List ℕ) {k : ℕ} → (admits root state id ≡ 0 → ⊥) → body_by w id action t ≡ Data k →
    root ≡ false
root_whole w false state id action t some e = refl
root_whole w true state id action t {k} some e =
    let z : ◌≡◌ {A = Own} (Ok 0) (Err k) = sym ((root_is id (root_kind_lem state id some)).own w t) ∙ offends w id action t k e in
    clash cc

module _ (l : Layout) (s : List ℕ) (h : Head) (head : h ≡ head_of l true s) {id action len : ℕ} (e : h ≡ Prefix id action len) where
  pub root_other : root_kind id ≡ false → Fault 7 0 ≡ judge_of l true 0 s
  unfolding admits
  root_other k =
      refused l true s h head name_bytes (admits true 0) e (cond (root_kind id) (nothing id) 0) refl (rw k) ∙ in_is name_bytes l true 0 s

  root_body : root_kind id ≡ true → {d : Body} → body_of id action (take (len - prefix_of l) (drop (prefix_of l) s)) ≡ d →
      found_by l id action len (nothing id) d ≡ judge_of l true 0 s
  root_body k q =
      rw (← q)
      (admitted l true s h head name_bytes (admits true 0) e (nothing id) (sym (admits_root 0 id k)) (root_opens id k) (prefix_of l) refl
      ∙ in_is name_bytes l true 0 s)

  pub root_acts : root_kind id ≡ true → (action ≡ 0 → ⊥) → Fault 8 0 ≡ judge_of l true 0 s
  unfolding body_by found_by
  root_acts k some = root_body k {d = Action} (rw ((root_is id k).acts action, ne_eqb action 0 some))

  pub root_found : root_kind id ≡ true → action ≡ 0 → Found id action (prefix_of l) len (nothing id) ≡ judge_of l true 0 s
  unfolding body_by data_body found_by
  root_found k none =
      let whole : prefix_of l + 0 ≡ prefix_of l = omega arith in
      rw whole at (root_body k {d = Whole 0} (rw ((root_is id k).acts action, eq-eqb action 0 none, (root_is id k).own name_bytes)))
