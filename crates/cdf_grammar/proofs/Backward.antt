-- Bytes that are stepped over to the end are the encoding of a tree that fits.
use Rattle.std.proofs.Common.{◌≡◌, refl, sym, ap, ◌∙◌, Bool, true, false, List, [], ◌∷◌, ◌++◌, append-nil, ℕ, zero, suc, ◌+◌, ◌-◌, ◌≤◌, ◌<◌, arith}
use Rattle.std.proofs.Common.{length, take, drop, length-take, take-append-drop, take-take, drop-drop}
use native.Mathlib.Decide.{dec_lt}
use lib.Seq.{take-length}
use Rattle.cdf_unit_prefix.specs.Layout.{Layout, prefix_of}
use Rattle.cdf_unit_table.specs.States.{opens, nothing, admit, complete}
use Rattle.cdf_unit_judge.specs.Judge.{judge_of, Judged, Fault, Found}
use Rattle.cdf_unit_list.specs.Units.{after, ended, Listing}
use Rattle.cdf_unit_list.specs.Stack.{opened, with_state, step}
use Rattle.cdf_unit_list.specs.Steps.{steps_from}
use Rattle.cdf_unit_list.specs.declared.Unit.{Unit}
use Rattle.cdf_unit_list.specs.declared.Open.{Open}
use Rattle.cdf_unit_judge.proofs.Placed.{Placed, placed}
use Rattle.cdf_unit_list.proofs.Entering.{unit_from}
use Rattle.cdf_grammar.specs.Trees.{Forest, none, tree, ids}
use Rattle.cdf_grammar.specs.Encoding.{encode, Bytes}
use Rattle.cdf_grammar.proofs.Fits.{through, Fits}
use Rattle.cdf_unit_table.proofs.Parts.{drop-take}
use Rattle.cdf_grammar.proofs.Parts.{part_left, part_bytes}
use Rattle.cdf_grammar.proofs.Written.{text_of, UnitIs, unit_written}
use Rattle.cdf_unit_table.proofs.Bools.{clash}
use Rattle.cdf_unit_table.proofs.Rows.{admits_nested}
use Rattle.cdf_unit_list.proofs.Stepping.{fresh, step_inside, step_closes, steps_on, faults, enters, opened_parent, refused_never, spent_never}
use Rattle.cdf_grammar.proofs.Nesting.{leaves, nest_unit}
use Rattle.cdf_grammar.proofs.Built.{encode_none, encode_tree}

module _ (l : Layout) (S : List ℕ) where
  -- The steps from inside a unit that was entered.
  abbrev pub steps_after : Unit → List Open → ℕ → List Unit → Listing
  steps_after u os F us = steps_from F l S (step l S (opened u os) (after u)) us

  -- What stands from a position to the end of an open unit are trees that fit, and with them it is complete.
  record Over (o : Open) (pos : ℕ) : Type 0 where
    trees : Forest
    fits : Fits l trees
    bytes : take (o.end - pos) (drop pos S) ≡ encode l trees
    full : complete (through o.state (ids trees)) ≡ true

  -- Steps to the end, with less fuel than this.
  abbrev Ends : ℕ → Type 0
  Ends N =
      (F : ℕ) → F < N → (o : Open) (os : List Open) (pos : ℕ) (us : List Unit) → pos ≤ o.end → o.end ≤ length S →
      (steps_from F l S (step l S (o ∷ os) pos) us).end ≡ ended → Over o pos

  closing_ends : (F : ℕ) (o : Open) (os : List Open) (pos : ℕ) (us : List Unit) → o.end ≡ pos →
      (steps_from F l S (step l S (o ∷ os) pos) us).end ≡ ended → Over o pos
  unfolding through ids
  closing_ends F o os pos us at q = go (complete o.state) refl
    where
      go : (x : Bool) → complete o.state ≡ x → Over o pos
      go true e =
          let none_left : o.end - pos ≡ 0 = omega arith in
          record { trees = none; fits = record {}; bytes = rw (none_left, encode_none); full = e }
      go false e = absurd (refused_never l S F 10 o.start us (rw (step_closes l S o os pos at, e) at q))

  -- A unit, and then the trees after it.
  nested_joined : (o : Open) (pos id len next : ℕ) → pos + len ≤ o.end → admit o.state id ≡ next →
      UnitIs l id (take len (take (o.end - pos) (drop pos S))) → Over (with_state o next) (pos + len) → Over o pos
  unfolding through ids with_state
  nested_joined o pos id len next room may v w =
      let s = take (o.end - pos) (drop pos S) in
      let left : o.end - pos - len ≡ o.end - (pos + len) = omega arith in
      let rest : drop len s ≡ encode l w.trees = rw (part_left pos (o.end - pos) len S, left) w.bytes in
      record {
        trees = tree id v.action v.text v.inner w.trees;
        fits = (v.passes, v.fits, w.fits);
        bytes = rw (encode_tree, ← v.bytes, ← rest, take-append-drop);
        full = ap (λ state. complete (through state (ids w.trees))) may ∙ w.full;
      }

module _ (l : Layout) (S : List ℕ) (b : Bytes S) where
  module _ {root : Bool} {state : ℕ} {s : List ℕ} {id action own len next : ℕ} (p : Placed l root state s id action own len next)
      (pos n : ℕ) (part : s ≡ take n (drop pos S)) (room : pos + n ≤ length S) where
    few : len ≤ n
    few = omega (arith, ap length part, length-take n (drop pos S))

    after_own : drop (own - prefix_of l) (take (len - prefix_of l) (drop (prefix_of l) s))
        ≡ take (pos + len - (pos + own)) (drop (pos + own) S)
    after_own =
        let at : prefix_of l + (own - prefix_of l) ≡ own = omega arith in
        let long : len - own ≡ pos + len - (pos + own) = omega arith in
        rw (
          ← drop-take (prefix_of l) len s,
          drop-drop (own - prefix_of l) (prefix_of l) (take len s),
          at,
          part,
          take-take len n (drop pos S) few,
          part_left pos len own S,
          long,
        )

    -- What was entered is a unit that fits.
    entered_ends : (N : ℕ) → Ends l S N → (F : ℕ) → F < N → (os : List Open) (us : List Unit) →
        (steps_after l S (unit_from pos id action own len) os F us).end ≡ ended → UnitIs l id (take len s)
    entered_ends N ends F h os us q = go (opens id) refl
      where
        u : Unit
        u = unit_from pos id action own len

        k : ℕ
        k = own - prefix_of l

        body : List ℕ
        body = take (len - prefix_of l) (drop (prefix_of l) s)

        unit : (inner : Forest) → text_of id k body ++ encode l inner ≡ body →
            (opens id ≡ true → complete (through (nothing id) (ids inner)) ≡ true) → (opens id ≡ false → inner ≡ none) →
            Fits l inner → UnitIs l id (take len s)
        unit = unit_written p (rw part (part_bytes pos n S b)) body refl

        go : (x : Bool) → opens id ≡ x → UnitIs l id (take len s)
        go true e =
            let w = opened_parent u os e in
            let v = ends F h (fresh u) os (pos + own) us (omega arith) (omega (arith, few)) (rw (w.0, w.1) at q) in
            let inner : encode l v.trees ≡ drop k body = sym (after_own ∙ v.bytes) in
            let all : text_of id k body ++ encode l v.trees ≡ body = rw (e, inner, take-append-drop) in
            unit v.trees all (λ x. v.full) (λ x. clash cc) v.fits
        go false e =
            let all : text_of id k body ++ encode l none ≡ body = rw (e, take-length, encode_none, append-nil) in
            unit none all (λ x. clash cc) (λ x. refl) (record {})

  -- The unit at a position is left at its end, and the steps go on in the one around it.
  inside_ends : (N : ℕ) → Ends l S N → (F : ℕ) → F < N → (o : Open) (os : List Open) (pos : ℕ) (us : List Unit) → pos < o.end →
      o.end ≤ length S → (steps_from (suc F) l S (step l S (o ∷ os) pos) us).end ≡ ended → Over l S o pos
  unfolding with_state
  inside_ends N ends F h o os pos us low high q = go (judge_of l false o.state s) refl
    where
      s : List ℕ
      s = take (o.end - pos) (drop pos S)

      go : (j : Judged) → judge_of l false o.state s ≡ j → Over l S o pos
      go (Fault n k) e =
          absurd (refused_never l S (suc F) n (pos + k) us (rw (step_inside l S o os pos low, e, faults) at q))
      go (Found id action own len next) e =
          let p = placed l false o.state s e in
          let u = unit_from pos id action own len in
          let around = with_state o next ∷ os in
          let inside : (steps_after l S u around F (u ∷ us)).end ≡ ended = rw (step_inside l S o os pos low, e, enters, steps_on) at q in
          let room : pos + len ≤ o.end = omega (arith, p.high, length-take (o.end - pos) (drop pos S)) in
          let v = entered_ends p pos (o.end - pos) refl (omega arith) N ends F h around (u ∷ us) inside in
          let g = leaves (nest_unit l S F u around (u ∷ us) (omega arith)) inside in
          nested_joined l S o pos id len next room (sym (admits_nested o.state id) ∙ p.may) v
          (ends g.fuel (omega (arith, g.less)) (with_state o next) os (pos + len) _ room high (rw g.on at inside))

  all_ends : (N : ℕ) → Ends l S N
  all_ends zero F h o os pos us low high q = absurd (omega arith)
  all_ends (suc N) zero h o os pos us low high q = absurd (spent_never l S _ us q)
  all_ends (suc N) (suc F) h o os pos us low high q = go (dec_lt pos o.end) (all_ends N)
    where
      go : Dec (pos < o.end) → Ends l S N → Over l S o pos
      go (yes p) ends = inside_ends N ends F (omega arith) o os pos us p high q
      go (no p) ends = closing_ends l S (suc F) o os pos us (omega arith) q

  -- Of the unit at the front of the bytes.
  pub front_ends : {root : Bool} {state id action own len next : ℕ} → Placed l root state S id action own len next →
      (steps_after l S (unit_from 0 id action own len) [] (length S) (unit_from 0 id action own len ∷ [])).end ≡ ended →
      UnitIs l id (take len S)
  front_ends p q =
      let n = length S in
      entered_ends p 0 n (sym (take-length S)) (omega arith) (suc n) (all_ends (suc n)) n (omega arith) [] _ q
