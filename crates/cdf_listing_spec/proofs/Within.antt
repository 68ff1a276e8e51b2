-- Listed units lie within the bytes, and have an id and an action of the table; a fault's offset lies within the bytes too.
use Rattle.std.proofs.Common.{ℕ, ◌+◌, ◌-◌, ◌≤◌, ◌<◌, ◌≡◌, refl, sym, ◌∙◌, Bool, true, false, List, [], ◌∷◌, ◌⊎◌, inl, inr, arith, ltb-true, leb, ltb}
use Rattle.std.proofs.Common.{eqb, length, take, drop, length-take, length-drop}
use Rattle.std.proofs.lemmas.Bool.{false≢true}
use native.Mathlib.Decide.{dec_lt}
use Rattle.cdf_unit_table.specs.Ids.{ids_end, known, kind_of, action_allowed}
use Rattle.cdf_unit_table.specs.States.{opens, complete}
use Rattle.cdf_unit_table.proofs.Bools.{both, of_cond, clash}
use Rattle.cdf_unit_table.proofs.Tests.{all, below_at, not_member}
use Rattle.cdf_unit_prefix.specs.Layout.{Layout}
use Rattle.cdf_unit_judge.specs.Judge.{judge_of, Judged, Fault, Found}
use Rattle.cdf_unit_judge.proofs.Placed.{placed}
use Rattle.cdf_unit_judge.proofs.Faults.{offset_lies}
use Rattle.cdf_unit_list.specs.Units.{End, unfinished, ended, fault, listing}
use Rattle.cdf_unit_list.specs.Stack.{Closing, incomplete, left, close, Step, done, refused, found, opened, entered, with_state}
use Rattle.cdf_unit_list.specs.Stack.{step_in, step, step_by, step_in_by}
use Rattle.cdf_unit_list.specs.declared.Unit.{Unit}
use Rattle.cdf_unit_list.specs.declared.Open.{Open}
use Rattle.cdf_unit_list.proofs.Entering.{unit_from}
use Rattle.cdf_unit_list.proofs.Few.{Further, unit_further}
use Rattle.cdf_unit_list.proofs.Stepping.{faults}
use Rattle.cdf_reader_runs.proofs.Steps.{Run, ends, breaks, hands, listed}

known_id : (id : ℕ) → known id ≡ true → id < ids_end
unfolding known
known_id id e = ltb-true id ids_end (both (leb 1 id) (ltb id ids_end) e).1

-- No action of the table is past 4.
small_action : (id action : ℕ) → id < ids_end → action_allowed id action ≡ true → action < 5
unfolding action_allowed kind_of
small_action id action h e = go (dec_lt action 5)
  where
    go : Dec (action < 5) → action < 5
    go (yes p) = p
    go (no p) =
        absurd (false≢true (sym (not_member (kind_of id).actions 5 (below_at (λ k. all (λ x. ltb x 5) (kind_of k).actions) ids_end tt id h)
        action (omega arith)) ∙ e))

-- Of a unit, n bytes around it.
pub record Fair (n : ℕ) (u : Unit) : Type 0 where
  pub start : u.start ≤ u.end
  pub end : u.end ≤ n
  pub id : u.id < ids_end
  pub action : u.action < 5

abbrev pub EachFair : ℕ → List Unit → Type 0
EachFair n [] = record {}
EachFair n (u ∷ us) = Fair n u × EachFair n us

abbrev Starts : ℕ → List Open → Type 0
Starts n [] = record {}
Starts n (o ∷ os) = (o.start ≤ n) × Starts n os

abbrev Sound : ℕ → Step → Type 0
Sound n done = record {}
Sound n (refused number at) = at ≤ n
Sound n (found u os pos) = Fair n u × Starts n os × (pos ≤ n)

abbrev pub OfEnd : ℕ → End → Type 0
OfEnd n unfinished = record {}
OfEnd n ended = record {}
OfEnd n (fault number at) = at ≤ n

module _ (l : Layout) (s : List ℕ) where
  starts_opened : (u : Unit) (os : List Open) → u.start ≤ length s → Starts (length s) os → Starts (length s) (opened u os)
  unfolding opened
  starts_opened u os p q = of_cond (Starts (length s)) (opens u.id) _ os (λ e. (p, q)) (λ e. q)

  entered_sound : (pos : ℕ) (around : ℕ → List Open) (root : Bool) (state : ℕ) (t : List ℕ) → length t ≤ length s - pos → pos ≤ length s →
      ((next : ℕ) → Starts (length s) (around next)) → Sound (length s) (entered pos around (judge_of l root state t))
  unfolding entered
  entered_sound pos around root state t few h starts =
      go (judge_of l root state t) refl (unit_further l s pos root state t around few)
    where
      go : (j : Judged) → judge_of l root state t ≡ j → Further l s pos (entered pos around j) → Sound (length s) (entered pos around j)
      go (Fault n k) e f = omega (arith, offset_lies l root state t e)
      go (Found i action own len next) e f =
          let p = placed l root state t e in
          let id = known_id i p.recognised in (
            record { start = omega arith; end = omega arith; id = id; action = small_action i action id p.allowed },
            starts_opened (unit_from pos i action own len) (around next) h (starts next),
            f.1,
          )

  -- What closing leaves are some of the open units.
  abbrev OfClosing : Closing → Type 0
  OfClosing (incomplete at) = at ≤ length s
  OfClosing (left os) = Starts (length s) os

  close_starts : (os : List Open) (pos : ℕ) → Starts (length s) os → OfClosing (close os pos)
  unfolding close
  close_starts [] pos h = record {}
  close_starts (o ∷ os) pos h =
      let rest = close_starts os pos h.1 in
      of_cond OfClosing (eqb o.end pos) _ (left (o ∷ os))
      (λ e. of_cond OfClosing (complete o.state) (close os pos) (incomplete o.start) (λ f. rest) (λ f. h.0)) (λ e. h)

  step_sound : (os : List Open) (pos : ℕ) → Starts (length s) os → pos ≤ length s → Sound (length s) (step l s os pos)
  unfolding step_by step_in_by with_state
  step_sound os pos starts h = go (close os pos) (close_starts os pos starts)
    where
      go : (c : Closing) → OfClosing c → Sound (length s) (step_in l s pos c)
      go (incomplete at) c = c
      go (left []) c = record {}
      go (left (o ∷ os)) c =
          entered_sound pos (λ state. with_state o state ∷ os) false o.state (take (o.end - pos) (drop pos s))
          (simp (length-take, length-drop) (omega arith)) h (λ state. c)

  run_sound : {x : Step} {us : List Unit} {e : End} → Run l s x us e → Sound (length s) x → EachFair (length s) us × OfEnd (length s) e
  run_sound ends h = (record {}, record {})
  run_sound breaks h = (record {}, h)
  run_sound (hands {os = os} {pos = pos} run) h =
      let rest = run_sound run (step_sound os pos h.1 h.2) in ((h.0, rest.0), rest.1)

  pub within : EachFair (length s) (listing l s).units × OfEnd (length s) (listing l s).end
  within =
      run_sound (listed l s)
      (entered_sound 0 (λ state. []) true 0 s (omega arith) (omega arith) (λ next. record {}))

  -- A run from a refusal has no unit.
  refused_none : {x : Step} {us : List Unit} {e : End} → Run l s x us e → (n at : ℕ) → x ≡ refused n at → us ≡ []
  refused_none ends n at e = refl
  refused_none breaks n at e = refl
  refused_none (hands run) n at e = clash cc

  -- No unit is listed, or the bytes are no more than the longest stream has.
  pub limited : ((listing l s).units ≡ []) ⊎ (length s ≤ l.limit)
  limited = go (judge_of l true 0 s) refl
    where
      go : (j : Judged) → judge_of l true 0 s ≡ j → ((listing l s).units ≡ []) ⊎ (length s ≤ l.limit)
      go (Fault n k) e = inl (refused_none (listed l s) n (0 + k) (rw e (faults 0 (λ state. []) n k)))
      go (Found id action own len next) e =
          let p = placed l true 0 s e in inr (omega (arith, p.whole refl, p.short refl))
