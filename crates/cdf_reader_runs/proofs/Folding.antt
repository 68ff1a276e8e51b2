-- A loop of a start and nexts that folds the units it is handed.
use Rattle.std.proofs.Common.{ℕ, ◌+◌, ◌≤◌, ◌≡◌, refl, ap, ◌∙◌, true, List, [], ◌∷◌, arith, ne_eqb, length}
use mathlib.Core.List.{foldl, reverse_aux}
use Rattle.cdf_unit_prefix.specs.Layout.{Layout, prefix_of}
use Rattle.cdf_unit_list.specs.Units.{End, listing}
use Rattle.cdf_unit_list.specs.Check.{answer_of, check_of}
use Rattle.cdf_unit_list.specs.Stack.{Step}
use Rattle.cdf_unit_list.specs.Ranks.{standing, ranked, ranked_units}
use Rattle.cdf_unit_list.specs.declared.Unit.{Unit}
use Rattle.cdf_unit_list.specs.declared.Ranked.{Ranked}
use Rattle.cdf_unit_list.proofs.Proved.{proved}
use Rattle.cdf_reader_spec.specs.Place.{ReaderPlace, fits}
use Rattle.cdf_reader_spec.specs.Calls.{Reply, stepped, first_of, next_of}
use Rattle.cdf_reader_runs.specs.Runs.{afterwards}
use Rattle.cdf_reader_runs.proofs.Looping.{Stops, at_end_lem, at_fault}
use Rattle.cdf_reader_runs.proofs.Looping as loop
use Rattle.cdf_reader_runs.proofs.Readings.{check_is}

-- The number and the offset of the step that ends the list.
module _ (l : Layout) (s : List ℕ) where
  ends_number : {x : Step} {e : End} → Stops l s x e → (listing l s).end ≡ e → (p : ReaderPlace) →
      ((stepped p x).number ≡ (afterwards (check_of l s)).number) × ((stepped p x).offset ≡ (afterwards (check_of l s)).offset)
  unfolding stepped afterwards answer_of
  ends_number at_end_lem q p = (rw (check_is l s, q), rw (check_is l s, q))
  ends_number (at_fault {n} {at}) q p =
      let some = ne_eqb n 0 (λ z. omega (arith, proved.numbered l s q)) in (rw (check_is l s, q, some), rw (check_is l s, q, some))

-- A fold of the units alone looks at no depth and no rank.
pub unranked : {A : Type 0} (fold : A → Unit → A) (h : A) (us vs : List Unit) →
    foldl (λ (x : A) (r : Ranked). fold x r.unit) h (ranked us vs) ≡ foldl fold h vs
unfolding ranked standing
unranked fold h us [] = refl
unranked fold h us (v ∷ vs) = unranked fold (fold h v) (v ∷ us) vs

module _ {A : Type 0} (fold : A → Ranked → A) (l : Layout) (s : List ℕ) (none : A) where
  -- The fold of units, the last one first.
  abbrev gathered : List Unit → A
  gathered [] = none
  gathered (u ∷ us) = fold (gathered us) (standing us u)

  gather_on : (before us : List Unit) → foldl fold none (ranked [] (reverse_aux before us)) ≡ foldl fold (gathered before) (ranked before us)
  unfolding ranked
  gather_on [] us = refl
  gather_on (u ∷ before) us = gather_on before (u ∷ us)

  -- The answer in hand, and the fold of the units before it.
  pub record Going (a : Reply) (h : A) : Type 0 where
    pub before : List Unit
    pub going : loop.Going l s before a
    pub has : h ≡ gathered before

  pub begun : (a : Reply) → a ≡ first_of l s → Going a none
  begun a e = record { before = []; going = loop.begun l s a e; has = refl }

  -- A unit was handed out: it lies in the bytes, the place behind it fits, and it is folded in.
  pub record Turn (a : Reply) (h : A) : Type 0 where
    pub own : a.handed.unit.start + prefix_of l ≤ a.handed.unit.own
    pub end : a.handed.unit.own ≤ a.handed.unit.end
    pub within : a.handed.unit.end ≤ length s
    pub fit : fits l (length s) a.place ≡ true
    pub next : Going (next_of l s a.place) (fold h a.handed)

  pub turned : (a : Reply) (h : A) → Going a h → a.number ≡ 0 → Turn a h
  turned a h g z =
      let t = loop.turned l s g.before a g.going z in
      record {
        own = t.own;
        end = t.end;
        within = t.within;
        fit = t.fit;
        next = record {
          before = a.handed.unit ∷ g.before;
          going = t.next;
          has = ap (λ (x : A). fold x a.handed) g.has ∙ ap (fold (gathered g.before)) t.ranked;
        };
      }

  -- No unit was handed out: what there is of the units is all, and the number is that of the end.
  pub record Over (a : Reply) (h : A) : Type 0 where
    pub all : foldl fold none (ranked_units l s) ≡ h
    pub number : a.number ≡ (afterwards (check_of l s)).number
    pub offset : a.offset ≡ (afterwards (check_of l s)).offset

  pub over : (a : Reply) (h : A) → Going a h → (a.number ≡ 0 → ⊥) → Over a h
  unfolding ranked_units ranked
  over a h g some =
      let o = loop.over l s g.before a g.going some in
      let end = rw (← o.is) at (ends_number l s o.stops refl o.place) in
      record { all = rw (o.all, g.has) (gather_on g.before []); number = end.0; offset = end.1 }
