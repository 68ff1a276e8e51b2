-- A loop of a start and nexts, turn by turn: which units were handed out before, the last one first, where the reader stands behind them, and
-- which units come. Every loop over a stream cites it.
use Rattle.std.proofs.Common.{ℕ, suc, ◌+◌, ◌≤◌, ◌≡◌, refl, ◌∙◌, true, cond, List, [], ◌∷◌, reverse, arith, length}
use mathlib.Core.List.{reverse_aux}
use Rattle.cdf_unit_table.specs.States.{opens}
use Rattle.cdf_unit_prefix.specs.Layout.{Layout, prefix_of}
use Rattle.cdf_unit_list.specs.Units.{after, Next, End, ended, fault, listing}
use Rattle.cdf_unit_list.specs.Ranks.{standing}
use Rattle.cdf_unit_list.specs.Stack.{Step, done, refused, found, step}
use Rattle.cdf_unit_list.specs.declared.Unit.{Unit}
use Rattle.cdf_unit_list.specs.declared.Open.{Open}
use Rattle.cdf_unit_list.proofs.Entering.{Follow}
use Rattle.cdf_unit_list.proofs.Ranks.{Counted, Counts, CountsOn, first_counts, next_counts}
use Rattle.cdf_unit_list.proofs.Agreement.{Agrees, both_end, both_refuse, both_list, first_agrees, next_agrees}
use Rattle.cdf_reader_spec.specs.Place.{ReaderPlace, fits}
use Rattle.cdf_reader_spec.specs.Closing.{unclosed_ranks}
use Rattle.cdf_reader_spec.specs.Ranking.{innermost_at, next_rank, handed_at}
use Rattle.cdf_reader_spec.specs.Calls.{Reply, empty_place, place_at, stepped, first_of, next_of}
use Rattle.cdf_reader_spec.proofs.Fitting.{fitting}
use Rattle.cdf_reader_spec.proofs.Opened.{at_most_four}
use Rattle.cdf_reader_spec.proofs.Replying.{start, first_is, next_is}
use Rattle.cdf_reader_runs.proofs.Ranking.{close_counted}
use Rattle.cdf_reader_runs.proofs.Keeps.{Keeps, first_keeps, next_keeps}
use Rattle.cdf_reader_runs.proofs.Steps.{Run, ends, breaks, hands, listed}

-- After a step that finds a unit, the stack follows the list with that unit.
abbrev pub Follows : List Unit → Step → Type 0
Follows us done = record {}
Follows us (refused n at) = record {}
Follows us (found u os pos) = (pos ≡ after u) × Follow (u ∷ us) os pos

pub agrees_follow : {us : List Unit} {n : Next} {x : Step} → Agrees us n x → Follows us x
agrees_follow both_end = record {}
agrees_follow both_refuse = record {}
agrees_follow (both_list few f) = (refl, f)

-- The ranks of the units that a step from a place leaves open.
abbrev pub ranks_left : ReaderPlace → List ℕ
ranks_left p = unclosed_ranks p.units p.ranks p.position

-- The rank that is due in the innermost open unit of a place.
abbrev pub rank_due : ReaderPlace → ℕ
rank_due p = cond (innermost_at p.units p.last.start) 0 (suc p.last_rank)

-- The place behind a unit that has its rank: the unit stands there as in the list, and the ranks behind it are those of the list.
pub counts_place : (us : List Unit) (p : ReaderPlace) (u : Unit) (os : List Open) (pos : ℕ) →
    Counts us (ranks_left p) (next_rank p) u os →
    (handed_at (place_at p u os pos) ≡ standing us u) × Counted (u ∷ us) os (place_at p u os pos).ranks (rank_due (place_at p u os pos))
unfolding handed_at standing innermost_at
counts_place us p u [] pos c = absurd c.innermost
counts_place us p u (o ∷ os) pos c = (rw (c.innermost, c.depth, c.rank), rw c.innermost c.counted)

module _ (l : Layout) (s : List ℕ) where
  -- The place behind the last unit that was handed out, with the ranks that the list gives.
  pub record Behind (u : Unit) (us : List Unit) (p : ReaderPlace) : Type 0 where
    pub position : p.position ≡ after u
    pub follow : Follow (u ∷ us) p.units p.position
    pub fit : fits l (length s) p ≡ true
    pub handed : handed_at p ≡ standing us u
    pub counted : Counted (u ∷ us) p.units p.ranks (rank_due p)

  -- The step that is taken next, and from which place.
  abbrev pub Stands : List Unit → ReaderPlace → Step → Type 0
  Stands [] p x = (p ≡ empty_place) × (x ≡ start l s)
  Stands (u ∷ us) p x = Behind u us p × (x ≡ step l s p.units p.position)

  follows : (us : List Unit) (p : ReaderPlace) (x : Step) → Stands us p x → Follows us x
  follows [] p x h = rw h.1 (agrees_follow (first_agrees l s true 0))
  follows (u ∷ us) p x h = rw h.1 (agrees_follow (next_agrees l s (u ∷ us) p.units p.position h.0.follow))

  counts : (us : List Unit) (p : ReaderPlace) (x : Step) → Stands us p x → CountsOn us (ranks_left p) (next_rank p) x
  unfolding unclosed_ranks next_rank
  counts [] p x h = rw (h.0, h.1) (first_counts l s)
  counts (u ∷ us) p x h =
      let b = h.0 in
      rw h.1
      (next_counts l s (u ∷ us) p.units p.position b.follow _ _
      (close_counted (u ∷ us) p.units p.ranks (rank_due p) p.position b.counted))

  -- So a step goes on as the list does, in its units and their ranks,
  abbrev pub Goes : List Unit → ReaderPlace → Step → Type 0
  Goes us p x = Follows us x × CountsOn us (ranks_left p) (next_rank p) x

  pub goes : (us : List Unit) (p : ReaderPlace) (x : Step) → Stands us p x → Goes us p x
  goes us p x h = (follows us p x h, counts us p x h)

  -- and one that finds a unit leads behind that unit.
  pub leads : (us : List Unit) (p : ReaderPlace) (u : Unit) (os : List Open) (pos : ℕ) → Goes us p (found u os pos) →
      Keeps l s p (found u os pos) → Behind u us (place_at p u os pos)
  leads us p u os pos g k =
      let r = counts_place us p u os pos g.1 in
      record { position = g.0.0; follow = g.0.1; fit = k; handed = r.0; counted = r.1 }

  pub stands_next : (us : List Unit) (p : ReaderPlace) (u : Unit) (os : List Open) (pos : ℕ) → Stands us p (found u os pos) →
      Keeps l s p (found u os pos) → Stands (u ∷ us) (place_at p u os pos) (step l s os pos)
  stands_next us p u os pos h k = (leads us p u os pos (goes us p (found u os pos) h) k, refl)

  -- How a step that finds none ends the list.
  pub data Stops : Step → End → Type 0 where
    at_end_lem : Stops done ended
    at_fault : {n at : ℕ} → Stops (refused n at) (fault n at)

  -- The answer in hand is that of the step that follows the units before.
  pub record Going (before : List Unit) (a : Reply) : Type 0 where
    pub place : ReaderPlace
    pub taken : Step
    pub units : List Unit
    pub is : a ≡ stepped place taken
    pub run : Run l s taken units (listing l s).end
    pub keeps : Keeps l s place taken
    pub stands : Stands before place taken
    pub all : (listing l s).units ≡ reverse_aux before units

  pub begun : (a : Reply) → a ≡ first_of l s → Going [] a
  begun a e = record {
    place = empty_place;
    taken = start l s;
    units = (listing l s).units;
    is = e ∙ first_is l s;
    run = listed l s;
    keeps = first_keeps l s;
    stands = (refl, refl);
    all = refl;
  }

  -- A unit was handed out, with the depth and rank that the list gives: it lies in the bytes, at most four are open behind it, where the
  -- place fits, and the next answer is that of the step behind it.
  pub record Turn (before : List Unit) (a : Reply) : Type 0 where
    pub own : a.handed.unit.start + prefix_of l ≤ a.handed.unit.own
    pub end : a.handed.unit.own ≤ a.handed.unit.end
    pub within : a.handed.unit.end ≤ length s
    pub ranked : a.handed ≡ standing before a.handed.unit
    pub few : length a.place.units ≤ 4
    pub fresh : a.place.fresh ≡ opens a.handed.unit.id
    pub fit : fits l (length s) a.place ≡ true
    pub place : ReaderPlace
    pub stands : Stands before place (found a.handed.unit a.place.units a.place.position)
    pub next : Going (a.handed.unit ∷ before) (next_of l s a.place)

  turn_from : {x : Step} {us : List Unit} {e : End} → Run l s x us e → e ≡ (listing l s).end → (before : List Unit)
      (p : ReaderPlace) → Keeps l s p x → Stands before p x → (listing l s).units ≡ reverse_aux before us → (stepped p x).number ≡ 0 → Turn before (stepped p x)
  unfolding stepped
  turn_from ends q before p k h all z = absurd (omega arith)
  turn_from breaks q before p k h all z = absurd (k z)
  turn_from (hands {u = u} {os = os} {pos = pos} {us = us} run) q before p k h all z =
      let next = place_at p u os pos in
      let fit = fitting l (length s) next k in
      let on = stands_next before p u os pos h k in
      record {
        own = fit.own;
        end = fit.end;
        within = fit.within;
        ranked = on.0.handed;
        few = at_most_four os fit.kinds;
        fresh = refl;
        fit = k;
        place = p;
        stands = h;
        next = record {
          place = next;
          taken = step l s os pos;
          units = us;
          is = next_is l s next k;
          run = rw (← q) run;
          keeps = next_keeps l s next k;
          stands = on;
          all = all;
        };
      }

  pub turned : (before : List Unit) (a : Reply) → Going before a → a.number ≡ 0 → Turn before a
  turned before a g z = rw g.is (turn_from g.run refl before g.place g.keeps g.stands g.all (rw (← g.is) z))

  -- No unit was handed out: those before are all, and the step ends the list.
  pub record Over (before : List Unit) (a : Reply) : Type 0 where
    pub place : ReaderPlace
    pub taken : Step
    pub is : a ≡ stepped place taken
    pub stands : Stands before place taken
    pub stops : Stops taken (listing l s).end
    pub all : (listing l s).units ≡ reverse before

  over_from : {x : Step} {us : List Unit} {e : End} → Run l s x us e → e ≡ (listing l s).end → (before : List Unit) (p : ReaderPlace) →
      Stands before p x → (listing l s).units ≡ reverse_aux before us → ((stepped p x).number ≡ 0 → ⊥) → Over before (stepped p x)
  unfolding stepped
  over_from ends q before p h all some =
      record { place = p; taken = done; is = refl; stands = h; stops = rw (← q) at_end_lem; all = all }
  over_from (breaks {n} {at}) q before p h all some =
      record { place = p; taken = refused n at; is = refl; stands = h; stops = rw (← q) at_fault; all = all }
  over_from (hands run) q before p h all some = absurd (some refl)

  pub over : (before : List Unit) (a : Reply) → Going before a → (a.number ≡ 0 → ⊥) → Over before a
  over before a g some = rw g.is (over_from g.run refl before g.place g.stands g.all (rw (← g.is) some))
