-- Nesting, for any bytes: a stack steps as it does alone until all of it is closed, and from there on what is around it does.
use Rattle.std.proofs.Common.{◌≡◌, refl, ap, ◌∙◌, Bool, true, false, cond, List, [], ◌∷◌, ◌++◌, reverse, ◌⊎◌, inl, inr, ℕ, zero, suc, ◌-◌, ◌≤◌, ◌<◌}
use Rattle.std.proofs.Common.{arith, eqb, take, drop, length-take}
use mathlib.Core.List.{reverse_aux, reverse_aux-append}
use native.Mathlib.Decide.{dec_lt}
use Rattle.cdf_unit_prefix.specs.Layout.{Layout}
use Rattle.cdf_unit_table.specs.States.{opens, complete}
use Rattle.cdf_unit_judge.specs.Judge.{judge_of, Judged, Fault, Found}
use Rattle.cdf_unit_list.specs.Units.{after, End, ended, Listing}
use Rattle.cdf_unit_list.specs.Stack.{Closing, incomplete, left, close, Step, done, refused, found, opened, entered, with_state}
use Rattle.cdf_unit_list.specs.Stack.{step_in, step_in_by, step, step_by}
use Rattle.cdf_unit_list.specs.Steps.{steps_from}
use Rattle.cdf_unit_list.specs.declared.Unit.{Unit}
use Rattle.cdf_unit_list.specs.declared.Open.{Open}
use Rattle.cdf_unit_judge.proofs.Placed.{placed}
use Rattle.cdf_unit_list.proofs.Entering.{after_between, unit_from}
use Rattle.cdf_unit_list.proofs.Stepping.{fresh, step_inside, step_closes, refused_never, spent_never}

-- What closing leaves of a stack with others around it, from what it leaves of the stack alone.
abbrev pub close_onward : List Open → ℕ → Closing → Closing
close_onward outer pos (incomplete at) = incomplete at
close_onward outer pos (left []) = close outer pos
close_onward outer pos (left (o ∷ os)) = left (o ∷ (os ++ outer))

pub nest_close : (inner outer : List Open) (pos : ℕ) → close (inner ++ outer) pos ≡ close_onward outer pos (close inner pos)
unfolding close
nest_close [] outer pos = refl
nest_close (o ∷ os) outer pos = go (eqb o.end pos) (complete o.state) (nest_close os outer pos)
  where
    go : (a b : Bool) → close (os ++ outer) pos ≡ close_onward outer pos (close os pos) →
        cond a (cond b (close (os ++ outer) pos) (incomplete o.start)) (left (o ∷ (os ++ outer)))
        ≡ close_onward outer pos (cond a (cond b (close os pos) (incomplete o.start)) (left (o ∷ os)))
    go true true e = e
    go true false e = refl
    go false b e = refl

nest_opened : (u : Unit) (inner outer : List Open) → opened u (inner ++ outer) ≡ opened u inner ++ outer
unfolding opened
nest_opened u inner outer = go (opens u.id)
  where
    go : (b : Bool) → cond b (fresh u ∷ (inner ++ outer)) (inner ++ outer) ≡ cond b (fresh u ∷ inner) inner ++ outer
    go true = refl
    go false = refl

-- A stack that spans from a position to an end: no unit ends after the one around it, and the outermost ends there. An
-- empty one spans nothing.
abbrev pub Spans : ℕ → List Open → ℕ → Type 0
Spans pos [] end = pos ≡ end
Spans pos (o ∷ os) end = (pos ≤ o.end) × Spans o.end os end

spans_up : (os : List Open) (pos end : ℕ) → Spans pos os end → pos ≤ end
spans_up [] pos end h = omega arith
spans_up (o ∷ os) pos end h = omega (arith, spans_up os o.end end h.1)

opened_spans : (u : Unit) (os : List Open) (end : ℕ) → u.own ≤ u.end → Spans u.end os end → Spans (after u) (opened u os) end
unfolding opened after
opened_spans u os end h w = go (opens u.id)
  where
    go : (b : Bool) → Spans (cond b u.own u.end) (cond b (fresh u ∷ os) os) end
    go true = (h, w)
    go false = w

-- Units that lie between two positions.
pub record Lies (from to : ℕ) (v : Unit) : Type 0 where
  pub low : from ≤ v.start
  pub nonempty : v.start < v.end
  pub high : v.end ≤ to

abbrev pub Within : ℕ → ℕ → List Unit → Type 0
Within from to [] = record {}
Within from to (v ∷ vs) = Lies from to v × Within from to vs

-- The listing ends inside: after the units before (`us`), the last one first, come only units that lie there.
pub record Stops (pos end : ℕ) (us : List Unit) (x : Listing) : Type 0 where
  pub inside : List Unit
  pub within : Within pos end inside
  pub units : x.units ≡ reverse (inside ++ us)
  pub unended : x.end ≡ ended → ⊥

-- Units listed to the end from a step: first the one that it found.
abbrev pub First : Step → List Unit → Type 0
First done vs = vs ≡ []
First (refused n at) vs = ⊥
First (found u os pos) vs = (ws : List Unit) × (vs ≡ u ∷ ws)

module _ (l : Layout) (S : List ℕ) where
  -- The step of a stack with others around it, from its step alone.
  abbrev pub onward : List Open → ℕ → Step → Step
  onward outer pos done = step l S outer pos
  onward outer pos (refused n at) = refused n at
  onward outer pos (found u os later) = found u (os ++ outer) later

  pub nest_step : (inner outer : List Open) (pos : ℕ) → step l S (inner ++ outer) pos ≡ onward outer pos (step l S inner pos)
  unfolding step_by step_in_by entered
  nest_step inner outer pos = rw nest_close (go (close inner pos))
    where
      unit : (o : Open) (os : List Open) (j : Judged) →
          entered pos (λ state. with_state o state ∷ (os ++ outer)) j ≡ onward outer pos (entered pos (λ state. with_state o state ∷ os) j)
      unit o os (Fault n k) = refl
      unit o os (Found id action own len state) = rw (nest_opened _ (with_state o state ∷ os) outer)

      go : (c : Closing) → step_in l S pos (close_onward outer pos c) ≡ onward outer pos (step_in l S pos c)
      go (incomplete at) = refl
      go (left []) = refl
      go (left (o ∷ os)) = unit o os (judge_of l false o.state (take (o.end - pos) (drop pos S)))

  -- A step keeps to the span: what it finds lies there, and what is open after it spans the rest.
  abbrev Inner : ℕ → ℕ → Step → Type 0
  Inner pos end done = pos ≡ end
  Inner pos end (refused n at) = record {}
  Inner pos end (found u os later) = Lies pos end u × (pos ≤ later) × Spans later os end

  step_spans : (os : List Open) (pos end : ℕ) → Spans pos os end → Inner pos end (step l S os pos)
  unfolding step_by with_state
  step_spans [] pos end h = h
  step_spans (o ∷ os) pos end h = go (dec_lt pos o.end) (step_spans os pos end)
    where
      s : List ℕ
      s = take (o.end - pos) (drop pos S)

      unit : (j : Judged) → judge_of l false o.state s ≡ j → Inner pos end (entered pos (λ state. with_state o state ∷ os) j)
      unit (Fault n k) e = record {}
      unit (Found id action own len next) e =
          let p = placed l false o.state s e in
          let u = unit_from pos id action own len in
          let few = length-take (o.end - pos) (drop pos S) in
          let up = spans_up os o.end end h.1 in
          let between = after_between u (omega arith) in
          let inner = opened_spans u (with_state o next ∷ os) end (omega arith) (omega arith, h.1) in
          (record { low = omega arith; nonempty = omega arith; high = omega arith }, omega arith, inner)

      closes : (b : Bool) → Inner pos end (step l S os pos) → Inner pos end (cond b (step l S os pos) (refused 10 o.start))
      closes true more = more
      closes false more = record {}

      go : Dec (pos < o.end) → (Spans pos os end → Inner pos end (step l S os pos)) → Inner pos end (step l S (o ∷ os) pos)
      go (yes p) more = rw (step_inside l S o os pos p) (unit (judge_of l false o.state s) refl)
      go (no p) more =
          let at : o.end ≡ pos = omega arith in
          rw (step_closes l S o os pos at) (closes (complete o.state) (more (rw at at h.1)))

  -- The listing goes on: after those units the steps are those of what is around, from the end.
  pub record Leaves (outer : List Open) (pos end F : ℕ) (us : List Unit) (x : Listing) : Type 0 where
    pub inside : List Unit
    pub within : Within pos end inside
    pub fuel : ℕ
    pub less : fuel ≤ F
    pub on : x ≡ steps_from fuel l S (step l S outer end) (inside ++ us)

  abbrev pub Nests : List Open → ℕ → ℕ → ℕ → List Unit → Listing → Type 0
  Nests outer pos end F us x = Stops pos end us x ⊎ Leaves outer pos end F us x

  module _ (outer : List Open) (from end N : ℕ) (us : List Unit) (x : Listing) where
    -- Where the steps come to `pos` and have listed the units `seen` on the way.
    abbrev NestsFrom : ℕ → Type 0
    NestsFrom F =
        F ≤ N → (inner : List Open) (pos : ℕ) → from ≤ pos → Spans pos inner end → (seen : List Unit) → Within from end seen →
        x ≡ steps_from F l S (step l S (inner ++ outer) pos) (seen ++ us) → Nests outer from end N us x

    stop : {k : End} (seen : List Unit) → Within from end seen → (k ≡ ended → ⊥) →
        x ≡ record { units = reverse (seen ++ us); end = k } → Nests outer from end N us x
    stop seen v never e = inl (record { inside = seen; within = v; units = rw e; unended = λ q. never (rw e at q) })

    nest_from : (F : ℕ) → NestsFrom F
    unfolding steps_from
    nest_from zero h inner pos low w seen v e = stop seen v (spent_never l S (step l S (inner ++ outer) pos) (seen ++ us)) e
    nest_from (suc F) h inner pos low w seen v e =
        go (step l S inner pos) (step_spans inner pos end w) (rw nest_step at e) (nest_from F)
      where
        go : (y : Step) → Inner pos end y → x ≡ steps_from (suc F) l S (onward outer pos y) (seen ++ us) → NestsFrom F →
            Nests outer from end N us x
        go done at e more = inr (record { inside = seen; within = v; fuel = suc F; less = h; on = rw at at e })
        go (refused n at) i e more = stop seen v (refused_never l S (suc F) n at (seen ++ us)) e
        go (found u os later) i e more =
            let lies : Lies from end u = record { low = omega arith; nonempty = omega arith; high = omega arith } in
            more (omega arith) os later (omega arith) i.2 (u ∷ seen) (lies, v) e

  pub nest : (F : ℕ) (inner outer : List Open) (pos end : ℕ) (us : List Unit) → Spans pos inner end →
      Nests outer pos end F us (steps_from F l S (step l S (inner ++ outer) pos) us)
  nest F inner outer pos end us w = nest_from outer pos end F us _ F (omega arith) inner pos (omega arith) w [] (record {}) refl

  -- From anywhere in one open unit, and from where a unit was just entered, also one that admits no others.
  pub nest_open : (F : ℕ) (o : Open) (outer : List Open) (pos : ℕ) (us : List Unit) → pos ≤ o.end →
      Nests outer pos o.end F us (steps_from F l S (step l S (o ∷ outer) pos) us)
  nest_open F o outer pos us h = nest F (o ∷ []) outer pos o.end us (h, refl)

  pub nest_unit : (F : ℕ) (u : Unit) (outer : List Open) (us : List Unit) → u.own ≤ u.end →
      Nests outer (after u) u.end F us (steps_from F l S (step l S (opened u outer) (after u)) us)
  nest_unit F u outer us h =
      rw (nest_opened u [] outer) (nest F (opened u []) outer (after u) u.end us (opened_spans u [] u.end h refl))

  -- The units before do not change what the steps list after them.
  units_after : (F : ℕ) (y : Step) (us : List Unit) → (steps_from F l S y us).units ≡ reverse_aux us (steps_from F l S y []).units
  unfolding steps_from
  units_after zero y us = refl
  units_after (suc F) done us = refl
  units_after (suc F) (refused n at) us = refl
  units_after (suc F) (found u os pos) us =
      rw (units_after F (step l S os pos) (u ∷ us), units_after F (step l S os pos) (u ∷ []))

  first_found : (F : ℕ) (y : Step) (us : List Unit) → (steps_from F l S y us).end ≡ ended → First y (steps_from F l S y []).units
  unfolding steps_from
  first_found zero y us q = absurd (spent_never l S y us q)
  first_found (suc F) done us q = refl
  first_found (suc F) (refused n at) us q = refused_never l S (suc F) n at us q
  first_found (suc F) (found u os pos) us q =
      ((steps_from F l S (step l S os pos) []).units, units_after F (step l S os pos) (u ∷ []))

  -- In the words of the unit list: the units before, those inside, and then first what a step of what is around finds.
  pub record Skips (outer : List Open) (pos end : ℕ) (us : List Unit) (x : Listing) : Type 0 where
    pub inside : List Unit
    pub within : Within pos end inside
    pub later : List Unit
    pub units : x.units ≡ reverse_aux us (reverse_aux inside later)
    pub next : First (step l S outer end) later

-- A listing that comes to the end ends in none of its units.
module _ {l : Layout} {S : List ℕ} {outer : List Open} {pos end F : ℕ} {us : List Unit} {x : Listing} where
  pub leaves : Nests l S outer pos end F us x → x.end ≡ ended → Leaves l S outer pos end F us x
  leaves (inl v) q = absurd (v.unended q)
  leaves (inr v) q = v

  pub skips : Leaves l S outer pos end F us x → x.end ≡ ended → Skips l S outer pos end us x
  skips v q =
      let y = step l S outer end in
      record {
        inside = v.inside;
        within = v.within;
        later = (steps_from v.fuel l S y []).units;
        units = ap (λ z. z.units) v.on ∙ rw (units_after l S v.fuel y (v.inside ++ us), reverse_aux-append);
        next = first_found l S v.fuel y (v.inside ++ us) (rw v.on at q);
      }
