-- Stepping over the encoding of trees that fit lists their units in order.
use Rattle.std.proofs.Common.{◌≡◌, refl, ap, ap₂, ◌∙◌, Bool, true, false, List, [], ◌∷◌, ◌++◌, append_assoc, append-nil, ℕ, suc, ◌+◌, ◌-◌, ◌^◌, ◌≤◌}
use Rattle.std.proofs.Common.{◌<◌, arith, length, take, drop, length-append, drop_at, drop-drop}
use mathlib.Core.List.{reverse_aux, reverse_aux-append, reverse_aux-reverse_aux-nil}
use lib.Seq.{take-append-add}
use Rattle.cdf_unit_prefix.specs.Layout.{Layout, prefix_of}
use Rattle.cdf_unit_table.specs.States.{opens, nothing, admit}
use Rattle.cdf_unit_list.specs.Units.{after, ended}
use Rattle.cdf_unit_list.specs.Stack.{opened, entered, with_state, step}
use Rattle.cdf_unit_list.specs.Steps.{steps_from}
use Rattle.cdf_unit_list.specs.declared.Unit.{Unit}
use Rattle.cdf_unit_list.specs.declared.Open.{Open}
use Rattle.cdf_unit_judge.specs.Judge.{Found}
use Rattle.cdf_unit_list.proofs.Entering.{unit_from}
use Rattle.cdf_grammar.specs.Trees.{Forest, none, tree, ids, units}
use Rattle.cdf_grammar.specs.Encoding.{unit_bytes, encode, list}
use Rattle.cdf_grammar.proofs.Fits.{through, through_none, complete_some, own_of, Passes, Fits}
use Rattle.cdf_grammar.proofs.Prefixes.{length_prefix}
use Rattle.cdf_grammar.proofs.Built.{encode_tree, size_of, unit_is, length_unit, length_tree, unit_judged}
use Rattle.cdf_unit_table.proofs.Bools.{clash}
use Rattle.cdf_unit_table.proofs.Rows.{admits_nested}
use Rattle.cdf_unit_list.proofs.Stepping.{fresh, step_inside, step_closes, steps_end, steps_on, enters, opened_parent, opened_leaf}

-- Where the units nested in a unit with this text stand.
abbrev pub inner_at : Layout → ℕ → List ℕ → ℕ
inner_at l pos text = pos + prefix_of l + length text

-- The unit at the front of a forest, as it is listed.
abbrev pub unit_here : Layout → ℕ → ℕ → ℕ → List ℕ → Forest → Unit
unit_here l pos id action text inner =
    let body : ℕ = pos + prefix_of l in
    let end : ℕ = body + (length text + length (encode l inner)) in
    record { id = id; action = action; start = pos; own = body + own_of id text; end = end }

unit_here_lem : (l : Layout) (pos id action : ℕ) (text : List ℕ) (inner : Forest) →
    unit_from pos id action (prefix_of l + own_of id text) (size_of l text inner) ≡ unit_here l pos id action text inner
unit_here_lem l pos id action text inner =
    let u = unit_here l pos id action text inner in
    let own : pos + (prefix_of l + own_of id text) ≡ u.own = omega arith in
    let end : pos + size_of l text inner ≡ u.end = omega arith in
    rw (own, end)

pub list_tree : (l : Layout) (pos id action : ℕ) (text : List ℕ) (inner rest : Forest) →
    list l pos (tree id action text inner rest)
    ≡ unit_here l pos id action text inner
    ∷ (list l (inner_at l pos text) inner ++ list l (unit_here l pos id action text inner).end rest)
unfolding list
list_tree l pos id action text inner rest = refl

pub list_one : (l : Layout) (pos id action : ℕ) (text : List ℕ) (inner : Forest) →
    list l pos (tree id action text inner none) ≡ unit_here l pos id action text inner ∷ list l (inner_at l pos text) inner
unfolding list
list_one l pos id action text inner = rw append-nil

module _ (l : Layout) (S : List ℕ) where
  -- Over a forest that stands at a position, in an open unit that admits its trees and has room for them.
  abbrev Listed : Forest → Type 0
  Listed f =
      (pos : ℕ) (more : List ℕ) (o : Open) (os : List Open) (F : ℕ) (us : List Unit) →
      drop pos S ≡ encode l f ++ more → pos + length (encode l f) ≤ o.end → (through o.state (ids f) ≡ 0 → ⊥) →
      steps_from (units f + F) l S (step l S (o ∷ os) pos) us
      ≡ steps_from F l S (step l S (with_state o (through o.state (ids f)) ∷ os) (pos + length (encode l f)))
      (reverse_aux (list l pos f) us)

  module _ (pos id action : ℕ) (text : List ℕ) (inner : Forest) where
    abbrev u : Unit
    u = unit_here l pos id action text inner

    module _ (more : List ℕ) (here : drop pos S ≡ unit_bytes l id action text (encode l inner) ++ more) where
      inner_here : drop (inner_at l pos text) S ≡ encode l inner ++ more
      inner_here =
          rw (
            ← drop-drop (length text) (pos + prefix_of l) S,
            ← drop-drop (prefix_of l) pos S,
            here,
            unit_is,
            append_assoc,
            append_assoc,
            drop_at _ _ _ (length_prefix l (size_of l text inner) action id),
            drop_at text (encode l inner ++ more) (length text) refl,
          )

      rest_here : drop u.end S ≡ more
      rest_here =
          let n = length (encode l inner) in
          let e : u.end ≡ inner_at l pos text + n = omega arith in
          rw (e, ← drop-drop n (inner_at l pos text) S, inner_here, drop_at (encode l inner) more n refl)

      module _ (p : Passes l id action text inner) (over-inner : Listed inner) where
        -- A unit that admits others closes at its end; any other has none nested.
        over_opened : (b : Bool) → opens id ≡ b → (os : List Open) (F : ℕ) (us : List Unit) →
            steps_from (units inner + F) l S (step l S (opened u os) (after u)) us
            ≡ steps_from F l S (step l S os u.end) (reverse_aux (list l (inner_at l pos text) inner) us)
        unfolding units list encode with_state
        over_opened true e os F us =
            let w = opened_parent u os e in
            let state = through (nothing id) (ids inner) in
            let full = p.full e in
            let end : inner_at l pos text + length (encode l inner) ≡ u.end = omega arith in
            rw (
              w.0,
              w.1,
              p.exact e,
              over-inner (inner_at l pos text) more (fresh u) os F us inner_here (omega arith) (complete_some state full),
              end,
              step_closes l S (with_state (fresh u) state) os u.end refl,
              full,
            )
        over_opened false e os F us =
            let w = opened_leaf u os e in
            let fuel : 0 + F ≡ F = omega arith in
            rw (w.0, w.1, p.leaf e, fuel)

        over_entered : (around : ℕ → List Open) (next F : ℕ) (us : List Unit) →
            steps_from (suc (units inner + F)) l S
            (entered pos around (Found id action (prefix_of l + own_of id text) (size_of l text inner) next)) us
            ≡ steps_from F l S (step l S (around next) u.end) (reverse_aux (list l (inner_at l pos text) inner) (u ∷ us))
        over_entered around next F us =
            rw (enters, unit_here_lem l pos id action text inner, steps_on) (over_opened (opens id) refl (around next) F (u ∷ us))

  over_none : Listed none
  unfolding units ids through list with_state
  over_none pos more o os F us here room some =
      let fuel : 0 + F ≡ F = omega arith in
      let at : pos + 0 ≡ pos = omega arith in
      rw (fuel, at)

  over_tree : (id action : ℕ) (text : List ℕ) (inner rest : Forest) → Passes l id action text inner →
      size_of l text inner < 256 ^ l.length_bytes → Listed inner → Listed rest → Listed (tree id action text inner rest)
  unfolding units ids through with_state
  over_tree id action text inner rest p small over-inner over-rest pos more o os F us here room some =
      let next = admit o.state id in
      let end = (unit_here l pos id action text inner).end in
      let bytes = unit_bytes l id action text (encode l inner) in
      let later = encode l rest ++ more in
      let front : drop pos S ≡ bytes ++ later = rw (encode_tree, append_assoc) at here in
      let whole : length (encode l (tree id action text inner rest)) ≡ length (bytes ++ encode l rest) = rw encode_tree in
      let long : length (bytes ++ encode l rest) ≡ size_of l text inner + length (encode l rest) = simp (length-append, length_unit) in
      let n = o.end - pos - length (bytes ++ encode l rest) in
      let cut : o.end - pos ≡ length (bytes ++ encode l rest) + n = omega arith in
      let kept = take-append-add (bytes ++ encode l rest) more n in
      let before = append_assoc bytes (encode l rest) more in
      let behind = append_assoc bytes (encode l rest) (take n more) in
      let left : take (o.end - pos) (drop pos S) ≡ bytes ++ (encode l rest ++ take n more) = cc in
      let some_next : next ≡ 0 → ⊥ = λ e. some (ap (λ h. through h (ids rest)) e ∙ through_none (ids rest)) in
      let nested : false ≡ true → ⊥ = λ r. clash cc in
      let ahead = encode l rest ++ take n more in
      let judged = unit_judged p small false o.state next (admits_nested o.state id) some_next ahead (λ r. absurd (nested r)) in
      let fuel : suc (units inner + units rest) + F ≡ suc (units inner + (units rest + F)) = omega arith in
      let stop : pos + length (encode l (tree id action text inner rest)) ≡ end + length (encode l rest) = omega arith in
      rw (
        fuel,
        step_inside l S o os pos (omega arith),
        left,
        judged,
        over_entered pos id action text inner later front p over-inner (λ state. with_state o state ∷ os) next (units rest + F) us,
        over-rest end more (with_state o next) os F _ (rest_here pos id action text inner later front) (omega arith) some,
        stop,
        list_tree,
        reverse_aux-append,
      )

  -- The lengths have to be ones that can be written.
  over : (f : Forest) → Fits l f → length (encode l f) < 256 ^ l.length_bytes → Listed f
  over none fit small = over_none
  over (tree id action text inner rest) fit small =
      let long = length_tree l id action text inner rest in
      over_tree id action text inner rest fit.0 (omega arith) (over inner fit.1 (omega arith)) (over rest fit.2 (omega arith))

pub length_list : (l : Layout) (pos : ℕ) (t : Forest) → length (list l pos t) ≡ units t
unfolding units list
length_list l pos none = refl
length_list l pos (tree id action text inner rest) =
    ap suc (rw length-append (ap₂ (λ a b. a + b) (length_list l (pos + prefix_of l + length text) inner)
    (length_list l (pos + prefix_of l + (length text + length (encode l inner))) rest)))

-- So the fuel, one more than there are bytes, is enough.
few_units : (l : Layout) (t : Forest) → units t ≤ length (encode l t)
unfolding units
few_units l none = omega arith
few_units l (tree id action text inner rest) =
    let a = few_units l inner in
    let b = few_units l rest in
    rw length_tree (omega arith)

-- From the unit at the front of the bytes: it alone, whatever follows.
pub front_lists : {l : Layout} {id action : ℕ} {text : List ℕ} {inner : Forest} → Passes l id action text inner → Fits l inner →
    size_of l text inner < 256 ^ l.length_bytes → (next : ℕ) (s more : List ℕ) → s ≡ unit_bytes l id action text (encode l inner) ++ more →
    steps_from (suc (length s)) l s
    (entered 0 (λ state. []) (Found id action (prefix_of l + own_of id text) (size_of l text inner) next)) []
    ≡ record { units = list l 0 (tree id action text inner none); end = ended }
front_lists {l} {id} {action} {text} {inner} p fit small next s more here =
    let long : length s ≡ size_of l text inner + length more = rw (here, length-append, length_unit) in
    let left = length s - suc (units inner) in
    let fuel : length s ≡ units inner + suc left = omega (arith, few_units l inner) in
    let over-inner = over l s inner fit (omega arith) in
    rw (
      fuel,
      over_entered l s 0 id action text inner more here p over-inner (λ state. []) next (suc left) [],
      steps_end,
      reverse_aux-reverse_aux-nil,
      list_one,
    )
