-- What a start tells of a stream's root.
use Rattle.std.proofs.Common.{◌≡◌, refl, ap, ◌∙◌, false, List, [], ◌∷◌, ℕ, eqb}
use Rattle.cdf_unit_table.specs.Ids.{er_group}
use Rattle.cdf_unit_table.proofs.Bools.{of_cond}
use Rattle.cdf_unit_prefix.specs.Layout.{Layout}
use Rattle.cdf_unit_list.specs.Units.{listing}
use Rattle.cdf_unit_list.specs.Check.{check_of}
use Rattle.cdf_unit_list.specs.Ranks.{ranked_units, ranked, standing}
use Rattle.cdf_unit_list.specs.declared.Unit.{Unit}
use Rattle.cdf_reader_spec.specs.Calls.{Reply, first_of}
use Rattle.cdf_reader_runs.specs.Runs.{Outcome, outcome, afterwards, due}
use Rattle.cdf_reader_runs.proofs.Readings.{begins}
use Rattle.cdf_lookup_spec.specs.Find.{is_group}

-- The unit of a start is listed first; beside any other number it is the unit of zeros.
pub group_is : (l : Layout) (s : List ℕ) (a : Reply) → a ≡ first_of l s → eqb a.handed.unit.id er_group ≡ is_group (listing l s).units
unfolding outcome afterwards due is_group ranked_units ranked standing
group_is l s a e = go (listing l s).units (ap outcome e ∙ begins l s)
  where
    go : (us : List Unit) → outcome a ≡ due (afterwards (check_of l s)) (ranked [] us) 0 → eqb a.handed.unit.id er_group ≡ is_group us
    go [] x =
        ap (λ (r : Outcome). eqb r.handed.unit.id er_group) x
        ∙ of_cond (λ (r : Outcome). eqb r.handed.unit.id er_group ≡ false) (eqb (check_of l s).number 0) _ _ (λ y. refl) (λ y. refl)
    go (u ∷ us) x = ap (λ (r : Outcome). eqb r.handed.unit.id er_group) x
