-- The place in which a call leaves the reader that handed out a unit fits the bytes.
use Rattle.std.proofs.Common.{ℕ, ◌+◌, ◌-◌, ◌≤◌, ◌≡◌, refl, sym, ◌∙◌, Bool, true, false, List, [], ◌∷◌, arith, eq-eqb, length, take, drop, length-take}
use Rattle.std.proofs.Common.{length-drop}
use Rattle.std.proofs.lemmas.Bool.{false≢true}
use Rattle.cdf_unit_table.proofs.Rows.{admits_root, admit_kind, root_kind_lem, opens_by}
use Rattle.cdf_unit_table.proofs.Heights.{falls, opens_lower}
use Rattle.cdf_unit_prefix.specs.Layout.{Layout}
use Rattle.cdf_unit_judge.specs.Judge.{judge_of, Judged, Fault, Found}
use Rattle.cdf_unit_judge.proofs.Faults.{told}
use Rattle.cdf_unit_judge.proofs.Placed.{Placed, placed}
use Rattle.cdf_unit_list.specs.Stack.{Closing, incomplete, left, close, Step, done, refused, found, entered, with_state, step_in, step, step_by, step_in_by}
use Rattle.cdf_unit_list.specs.declared.Open.{Open}
use Rattle.cdf_unit_list.proofs.Entering.{unit_from as unit_at}
use Rattle.cdf_unit_list.proofs.Stepping.{fresh}
use Rattle.cdf_reader_spec.specs.Place.{ReaderPlace, nested, fits}
use Rattle.cdf_reader_spec.specs.Calls.{empty_place, place_at}
use Rattle.cdf_reader_spec.specs.Tests.{chain}
use Rattle.cdf_reader_runs.proofs.Ranking.{Ranked, empty_ranked, fitting_ranked}
use Rattle.cdf_reader_runs.proofs.Around.{Around, OfClosing, Enters, lies, position_in, chain_on, with_state_lem, close_held, fitting_held, enters_fit}

module _ (l : Layout) (s : List ℕ) where
  -- Of a step from a place: a refusal's number is not 0, and after a unit that is found the place fits.
  abbrev pub Keeps : ReaderPlace → Step → Type 0
  Keeps p done = record {}
  Keeps p (refused n at) = n ≡ 0 → ⊥
  Keeps p (found u os pos) = fits l (length s) (place_at p u os pos) ≡ true

  -- It is so of a unit judged among bytes t, if what the judge passes may be entered.
  entered_keeps : (p : ReaderPlace) (pos : ℕ) (around : ℕ → List Open) (root : Bool) (state : ℕ) (t : List ℕ) →
      ((next : ℕ) → Ranked l p pos (around next)) →
      ((id action own len next : ℕ) → Placed l root state t id action own len next →
      Enters l (length s) (unit_at pos id action own len) (around next)) →
      Keeps p (entered pos around (judge_of l root state t))
  unfolding entered
  entered_keeps p pos around root state t ranks enters = go (judge_of l root state t) refl
    where
      go : (j : Judged) → judge_of l root state t ≡ j → Keeps p (entered pos around j)
      go (Fault n k) e = λ z. omega (arith, (told l root t state e).low)
      go (Found id action own len next) e =
          enters_fit l (length s) p (unit_at pos id action own len) (around next) (enters id action own len next (placed l root state t e))
          (ranks next)

  -- A unit that the judge passes in what the innermost unit has left may be entered,
  nested_enters : (pos : ℕ) (o : Open) (os : List Open) → Around l (length s) pos (o ∷ os) → (id action own len next : ℕ) →
      Placed l false o.state (take (o.end - pos) (drop pos s)) id action own len next →
      Enters l (length s) (unit_at pos id action own len) (with_state o next ∷ os)
  unfolding with_state
  nested_enters pos o os a id action own len next p =
      let few : length (take (o.end - pos) (drop pos s)) ≤ o.end - pos = simp length-take (omega arith) in
      let fit : length (take (o.end - pos) (drop pos s)) ≤ length s - pos = simp (length-take, length-drop) (omega arith) in
      let w = falls o.state id next p.may p.some in
      let within = lies l pos o os a.position in
      let rest = with_state_lem l (length s) o os next w.stays a.chained in
      record {
        own = omega arith;
        end = omega arith;
        within = omega arith;
        parent = λ x.
            chain_on l (length s) (fresh (unit_at pos id action own len)) (with_state o next) os (record {
              kind = rw (w.stays, (opens_lower id x).own) (admit_kind o.state id (λ z. p.some (sym p.may ∙ z)));
              start = within.0;
              end = omega arith;
              rest = rest;
            });
        leaf = λ x. record {
          chained = rest;
          position = position_in l (pos + len) (with_state o next) os (omega arith) (omega arith);
        };
      }

  -- and one that it passes as the root.
  root_enters : (id action own len next : ℕ) → Placed l true 0 s id action own len next →
      Enters l (length s) (unit_at 0 id action own len) []
  unfolding chain nested
  root_enters id action own len next p =
      let kind = root_kind_lem 0 id (λ z. p.some (sym p.may ∙ z)) in
      let parent = opens_by id next (sym p.may ∙ admits_root 0 id kind) p.some in
      let whole : 0 + len ≡ length s = omega (arith, p.whole refl) in
      record {
        own = omega arith;
        end = omega arith;
        within = omega arith;
        parent = λ x. rw ((opens_lower id x).own, kind, eq-eqb (0 + len) (length s) whole);
        leaf = λ x. absurd (false≢true (sym x ∙ parent));
      }

  -- So a start keeps this, and a next that is given a place that fits.
  pub first_keeps : Keeps empty_place (entered 0 (λ state. []) (judge_of l true 0 s))
  first_keeps = entered_keeps empty_place 0 (λ state. []) true 0 s (λ next. empty_ranked l) root_enters

  -- What closing leaves is around the position, so that a unit there may be entered.
  pub next_keeps : (p : ReaderPlace) → fits l (length s) p ≡ true → Keeps p (step l s p.units p.position)
  unfolding step_by step_in_by with_state
  next_keeps p e = go (close p.units p.position) refl (close_held l (length s) p.position p.units (fitting_held l (length s) p e))
    where
      pos : ℕ
      pos = p.position

      go : (c : Closing) → close p.units pos ≡ c → OfClosing l (length s) pos c → Keeps p (step_in l s pos c)
      go (incomplete at) q c = λ z. omega arith
      go (left []) q c = record {}
      go (left (o ∷ os)) q a =
          let r = fitting_ranked l (length s) p e (o ∷ os) q in
          entered_keeps p pos (λ next. with_state o next ∷ os) false o.state (take (o.end - pos) (drop pos s))
          (λ next. record { each = r.each; low = r.low; next = r.next }) (nested_enters pos o os a)
