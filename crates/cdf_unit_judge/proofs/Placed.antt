-- A unit that the judge passes is one that keeps the rules 3 to 9, and the other way round.
use Rattle.std.proofs.Common.{◌≡◌, refl, sym, Bool, false, true, not, List, ℕ, ◌≤◌, ◌<◌, ◌+◌, ◌-◌, arith, ltb-false, le-ltb, eqb-true, eq-eqb, ne_eqb}
use Rattle.std.proofs.Common.{leb-true, le-leb, ltb, eqb, leb, length, take, drop, length-take, length-drop}
use Rattle.std.proofs.lemmas.Bool.{not-false, eqb-false}
use Rattle.cdf_unit_prefix.specs.Layout.{Layout, prefix_of, marked, length_at, action_at, id_at, length_fits}
use Rattle.cdf_unit_table.specs.Ids.{known, action_allowed}
use Rattle.cdf_unit_table.specs.States.{admits}
use Rattle.cdf_unit_data.specs.Data.{NameBytes, name_bytes, own_data_by, Own}
use Rattle.cdf_unit_prefix.specs.Rules.{head_of, Head, Stop, Prefix}
use Rattle.cdf_unit_judge.specs.Judge.{data_body, body_by, found_by, judge_head, judge_by, judge_in, judge_of, Body, Action, Data, Whole, Fault, Found}
use Rattle.std.specs.Prelude.{Ok, Err}
use Rattle.cdf_unit_judge.specs.Short.{Short}
use Rattle.cdf_unit_table.proofs.Bools.{both, past, clash}
use Rattle.cdf_unit_data.proofs.Taken.{taken_fits, broken_fits}

-- By any bytes that may stand in a name.
pub record PlacedBy (w : NameBytes) (l : Layout) (root : Bool) (state : ℕ) (s : List ℕ) (id action own len next : ℕ) : Type 0 where
  pub mark : marked l s ≡ true
  pub is_id : id ≡ id_at l s
  pub is_action : action ≡ action_at l s
  pub is_length : len ≡ length_at l s
  pub recognised : known id ≡ true
  pub may : admits root state id ≡ next
  pub some : next ≡ 0 → ⊥
  pub allowed : action_allowed id action ≡ true
  pub taken : own_data_by w id (take (len - prefix_of l) (drop (prefix_of l) s)) ≡ Ok (own - prefix_of l)
  pub room : prefix_of l ≤ own
  pub inside : own ≤ len
  pub high : len ≤ length s
  pub whole : root ≡ true → len ≡ length s
  pub short : root ≡ true → len ≤ l.limit

abbrev pub Placed : Layout → Bool → ℕ → List ℕ → ℕ → ℕ → ℕ → ℕ → ℕ → Type 0
Placed = PlacedBy name_bytes

-- Of the length, that it fits.
pub record Fitting (l : Layout) (root : Bool) (n len : ℕ) : Type 0 where
  pub high : len ≤ n
  pub whole : root ≡ true → len ≡ n
  pub short : root ≡ true → len ≤ l.limit

fitting : (l : Layout) (root : Bool) (n len : ℕ) → length_fits l root n len ≡ true → Fitting l root n len
unfolding length_fits
fitting l true n len e =
    let w = both (eqb len n) (leb len l.limit) e in
    let same = eqb-true len n w.0 in
    record { high = omega arith; whole = λ r. same; short = λ r. leb-true len l.limit w.1 }
fitting l false n len e =
    let nested : false ≡ true → ⊥ = λ r. clash cc in
    record { high = leb-true len n e; whole = λ r. absurd (nested r); short = λ r. absurd (nested r) }

fits : (l : Layout) (root : Bool) (n len : ℕ) → Fitting l root n len → length_fits l root n len ≡ true
unfolding length_fits
fits l true n len f = rw (eq-eqb len n (f.whole refl), le-leb len l.limit (f.short refl))
fits l false n len f = le-leb len n f.high

-- Of a prefix, that it keeps the rules 3 to 6.
pub record Headed (l : Layout) (root : Bool) (s : List ℕ) (id action len : ℕ) : Type 0 where
  pub mark : marked l s ≡ true
  pub is_id : id ≡ id_at l s
  pub is_action : action ≡ action_at l s
  pub is_length : len ≡ length_at l s
  pub recognised : known id ≡ true
  pub low : prefix_of l ≤ len
  pub fit : Fitting l root (length s) len

pub headed : (l : Layout) (root : Bool) (s : List ℕ) (id action len : ℕ) → head_of l root s ≡ Prefix id action len →
    Headed l root s id action len
unfolding head_of
headed l root s id action len e0 =
    let e1 = past (ltb (length s) (prefix_of l)) (Stop 3) _ (stop 3) e0 in
    let e2 = past (not (marked l s)) (Stop 4) _ (stop 4) e1.1 in
    let e3 = past (ltb (length_at l s) (prefix_of l)) (Stop 5) _ (stop 5) e2.1 in
    let e4 = past (not (length_fits l root (length s) (length_at l s))) (Stop 5) _ (stop 5) e3.1 in
    let e5 = past (not (known (id_at l s))) (Stop 6) _ (stop 6) e4.1 in
    let e : Prefix (id_at l s) (action_at l s) (length_at l s) ≡ Prefix id action len = e5.1 in
    let i : id ≡ id_at l s = cc in
    let n : len ≡ length_at l s = cc in
    record {
      mark = not-false (marked l s) e2.0;
      is_id = i;
      is_action = cc;
      is_length = n;
      recognised = rw i (not-false _ e5.0);
      low = rw n (ltb-false (length_at l s) (prefix_of l) e3.0);
      fit = rw n (fitting l root (length s) (length_at l s) (not-false _ e4.0));
    }
  where
    stop : (n : ℕ) → Stop n ≡ Prefix id action len → ⊥
    stop n e = clash cc

pub offends : (w : NameBytes) (id action : ℕ) (t : List ℕ) (k : ℕ) → body_by w id action t ≡ Data k → own_data_by w id t ≡ Err k
unfolding body_by data_body
offends w id action t k e =
    own (own_data_by w id t) (past (not (action_allowed id action)) Action _ (λ e. clash cc) e).1
  where
    own : (x : Own) → data_body x ≡ Data k → x ≡ Err k
    own (Ok j) e = clash cc
    own (Err j) e = cc

held : (w : NameBytes) (id action : ℕ) (t : List ℕ) (k : ℕ) → body_by w id action t ≡ Whole k →
    (action_allowed id action ≡ true) × (own_data_by w id t ≡ Ok k)
unfolding body_by data_body
held w id action t k e =
    let passes = past (not (action_allowed id action)) Action _ (λ e. clash cc) e in
    (not-false (action_allowed id action) passes.0, own (own_data_by w id t) passes.1)
  where
    own : (x : Own) → data_body x ≡ Whole k → x ≡ Ok k
    own (Ok j) e = cc
    own (Err j) e = clash cc

pub body_fits : (w : NameBytes) (id action : ℕ) (t : List ℕ) (k : ℕ) → body_by w id action t ≡ Whole k → k ≤ length t
body_fits w id action t k e = taken_fits w id t k (held w id action t k e).1

pub fault_fits : (w : NameBytes) (id action : ℕ) (t : List ℕ) (k : ℕ) → body_by w id action t ≡ Data k → k ≤ length t
fault_fits w id action t k e = broken_fits w id t k (offends w id action t k e)

-- So in the bytes of a slice what it takes, and the byte that offends, are numbers that a field can hold.
pub short : (w : NameBytes) (id action : ℕ) (t : List ℕ) (b : Body) → b ≡ body_by w id action t → length t < 9223372036854775808 → Short b
short w id action t Action e h = record {}
short w id action t (Data k) e h = let few = fault_fits w id action t k (sym e) in omega arith
short w id action t (Whole k) e h = let few = body_fits w id action t k (sym e) in omega arith

module _ (w : NameBytes) (l : Layout) (root : Bool) (state : ℕ) (s : List ℕ) where
  found : (id action len k : ℕ) → Headed l root s id action len → (admits root state id ≡ 0 → ⊥) →
      body_by w id action (take (len - prefix_of l) (drop (prefix_of l) s)) ≡ Whole k →
      PlacedBy w l root state s id action (prefix_of l + k) len (admits root state id)
  found id action len k h some e =
      let t = take (len - prefix_of l) (drop (prefix_of l) s) in
      let keeps = held w id action t k e in
      let few = body_fits w id action t k e in
      let long : length t ≡ len - prefix_of l = simp (length-take, length-drop) (omega arith) in
      let same : prefix_of l + k - prefix_of l ≡ k = omega arith in
      record {
        mark = h.mark;
        is_id = h.is_id;
        is_action = h.is_action;
        is_length = h.is_length;
        recognised = h.recognised;
        may = refl;
        some = some;
        allowed = keeps.0;
        taken = rw same keeps.1;
        room = omega arith;
        inside = omega arith;
        high = h.fit.high;
        whole = h.fit.whole;
        short = h.fit.short;
      }

  by_head : (h : Head) {id action own len next : ℕ} → head_of l root s ≡ h →
      judge_head w l (admits root state) s h ≡ Found id action own len next → PlacedBy w l root state s id action own len next
  unfolding judge_head found_by
  by_head (Stop n) q e = clash cc
  by_head (Prefix i a n) {id} {action} {own} {len} {next} q e =
      let passes = past (eqb (admits root state i) 0) (Fault 7 0) _ (λ e. clash cc) e in
      by_body (body_by w i a (take (n - prefix_of l) (drop (prefix_of l) s))) passes.1
      (λ k. found i a n k (headed l root s i a n q) (eqb-false _ 0 passes.0))
    where
      by_body : (c : Body) → found_by l i a n (admits root state i) c ≡ Found id action own len next →
          ((k : ℕ) → c ≡ Whole k → PlacedBy w l root state s i a (prefix_of l + k) n (admits root state i)) →
          PlacedBy w l root state s id action own len next
      by_body Action e facts = clash cc
      by_body (Data k) e facts = clash cc
      by_body (Whole k) e facts =
          let ei : i ≡ id = cc in
          let ea : a ≡ action = cc in
          let eo : prefix_of l + k ≡ own = cc in
          let en : n ≡ len = cc in
          let ex : admits root state id ≡ next = cc in
          rw (ei, ea, eo, en, ex) at (facts k refl)

  pub placed_by : {id action own len next : ℕ} → judge_in w l root state s ≡ Found id action own len next →
      PlacedBy w l root state s id action own len next
  unfolding judge_in judge_by
  placed_by e = by_head (head_of l root s) refl e

module _ (l : Layout) (root : Bool) (state : ℕ) (s : List ℕ) where
  pub placed : {id action own len next : ℕ} → judge_of l root state s ≡ Found id action own len next →
      Placed l root state s id action own len next
  placed e = placed_by name_bytes l root state s e

  pub judged : {id action own len next : ℕ} → Placed l root state s id action own len next →
      judge_of l root state s ≡ Found id action own len next
  unfolding judge_in judge_by judge_head head_of found_by body_by data_body
  judged {own = own} {len = len} {next = next} p =
      let full : prefix_of l ≤ length s = omega arith in
      let low : prefix_of l ≤ len = omega arith in
      let fit = fits l root (length s) len (record { high = p.high; whole = p.whole; short = p.short }) in
      let same : prefix_of l + (own - prefix_of l) ≡ own = omega arith in
      rw (
        le-ltb (length s) (prefix_of l) full,
        p.mark,
        ← p.is_length,
        ← p.is_id,
        ← p.is_action,
        le-ltb len (prefix_of l) low,
        fit,
        p.recognised,
        p.may,
        ne_eqb next 0 p.some,
        p.allowed,
        p.taken,
        same,
      )
