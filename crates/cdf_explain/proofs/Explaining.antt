-- What is told where a start and nexts come to the first number that is not 0.
use Rattle.std.proofs.Common.{ℕ, ◌≤◌, ◌≡◌, refl, ap, ◌∙◌, List, [], ◌∷◌, reverse, arith, length}
use Rattle.std.specs.Prelude.{Some, None, ◌↔◌}
use Rattle.cdf_unit_table.proofs.Bools.{clash}
use Rattle.cdf_unit_prefix.specs.Layout.{Layout}
use Rattle.cdf_unit_list.specs.Units.{End, fault, listing}
use Rattle.cdf_unit_list.specs.Stack.{Step}
use Rattle.cdf_unit_list.specs.declared.Unit.{Unit}
use Rattle.cdf_unit_list.specs.declared.Open.{Open}
use Rattle.cdf_unit_list.proofs.Proved.{proved}
use Rattle.cdf_reader_spec.specs.Place.{ReaderPlace, every}
use Rattle.cdf_reader_spec.specs.Calls.{Reply, stepped}
use Rattle.cdf_reader_spec.specs.Closing.{unclosed}
use Rattle.cdf_reader_spec.specs.Slots.{open_units}
use Rattle.cdf_reader_spec.proofs.Fitting.{fitting}
use Rattle.cdf_reader_spec.proofs.Opened.{at_most_four}
use Rattle.cdf_reader_runs.proofs.Looping.{Stands, Stops, at_end_lem, at_fault, Over}
use Rattle.cdf_reader_spec.proofs.Counted.{length_open}
use Rattle.cdf_explain_spec.specs.Why.{nothing_wrong, open_around, why_after, why_of}
use Rattle.cdf_explain_spec.proofs.Stands.{why_after_lem}
use Rattle.cdf_explain_spec.proofs.Ids.{unclosed_states, unclosed_few}
use Rattle.cdf_explain_spec.proofs.Inwards.{around_opens}
use Rattle.cdf_explain_spec.proofs.Told.{around_units}
use Rattle.cdf_explain.specs.Numbers.{explained_by}
use Rattle.cdf_explain.specs.Parts.{told_at}
use Rattle.cdf_explain.proofs.Telling.{told_why}

module _ (l : Layout) (s : List ℕ) where
  -- No unit was handed out: what is told, by the answer.
  pub record Told (a : Reply) : Type 0 where
    pub accepted : a.number ≡ 1 → why_of l s ≡ nothing_wrong
    pub told : (a.number ≡ 1 → ⊥) →
        explained_by (why_of l s) ≡ told_at a.number a.offset (unclosed a.place.units a.place.position)
    pub few : length (unclosed a.place.units a.place.position) ≤ 4

  few_open : (before : List Unit) (p : ReaderPlace) (x : Step) → Stands l s before p x → length (unclosed p.units p.position) ≤ 4
  unfolding unclosed
  few_open [] p x h = rw h.0 (omega arith)
  few_open (u ∷ us) p x h =
      omega (arith, unclosed_few p.units p.position, at_most_four p.units (fitting l (length s) p h.0.fit).kinds)

  told_fault : (before : List Unit) (p : ReaderPlace) (x : Step) → Stands l s before p x → (n at : ℕ) →
      explained_by (why_after before (fault n at)) ≡ told_at n at (unclosed p.units p.position)
  unfolding why_after open_around unclosed every
  told_fault [] p x h n at = rw h.0 (told_why [] [] (record {}) refl n at)
  told_fault (u ∷ us) p x h n at =
      let same = around_units l s u us p h.0 in
      rw same
      (told_why (u ∷ us) (open_around (u ∷ us)) (around_opens (u ∷ us))
      (rw same at (unclosed_states p.units p.position (fitting l (length s) p h.0.fit).states)) n at)

  told_over : (before : List Unit) → (listing l s).units ≡ reverse before → {x : Step} {e : End} → Stops l s x e → (listing l s).end ≡ e →
      (p : ReaderPlace) → Stands l s before p x → Told (stepped p x)
  unfolding stepped why_after
  told_over before all at_end_lem q p h = record {
    accepted = λ z. why_after_lem l s before all ∙ rw q;
    told = λ no. absurd (no refl);
    few = few_open before p _ h;
  }
  told_over before all (at_fault {n} {at}) q p h = record {
    accepted = λ z. absurd (omega (arith, proved.numbered l s q));
    told = λ no. rw (why_after_lem l s before all, q) (told_fault before p _ h n at);
    few = few_open before p _ h;
  }

  pub told_end : (before : List Unit) (a : Reply) → Over l s before a → Told a
  told_end before a o = rw o.is (told_over before o.all o.stops refl o.place o.stands)

-- So many are left.
pub closed_few : (count : ℕ) (top o1 o2 o3 : Open) (os : List Open) → open_units count top o1 o2 o3 ≡ os → length os ≤ 4 → count ≤ 4
closed_few count top o1 o2 o3 os e few = omega (arith, ap length e, length_open count top o1 o2 o3)

-- An answer that tells something is of a number other than 0.
pub some_told : {A : Type 0} (x : A) (n : ℕ) → (n ≡ 0 → ⊥) → (Some x ≡ None) ↔ (n ≡ 0)
some_told x n some = (λ e. clash cc, λ z. absurd (some z))
