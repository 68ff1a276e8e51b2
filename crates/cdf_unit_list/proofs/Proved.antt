-- The claims of this crate, proved.
use Rattle.std.proofs.Common.{true, false, ◌≡◌, refl, [], ◌∷◌}
use Rattle.cdf_unit_prefix.specs.Layout.{layout_of}
use Rattle.cdf_unit_prefix.specs.declared.Edition.TheVariants.{First}
use Rattle.cdf_unit_list.specs.Units.{listing, listing_in}
use Rattle.cdf_unit_list.specs.Ranks.{ranked_units, stands_in}
use Rattle.cdf_unit_list.specs.Samples.{k1, k2, samples, all_hold}
use Rattle.cdf_unit_list.specs.Claims.{Claims}
use Rattle.cdf_unit_list.proofs.Fuel.{finishes}
use Rattle.cdf_unit_list.proofs.Few.{few}
use Rattle.cdf_unit_list.proofs.Depth.{shallow}
use Rattle.cdf_unit_list.proofs.Numbered.{numbered, pointed}
use Rattle.cdf_unit_list.proofs.Low.{ranked_units_lem, ranked_depths, low}

samples_hold : all_hold samples ≡ true
unfolding all_hold
samples_hold = refl

ranks_hold : (stands_in (layout_of First) k1 ≡ (1, 0) ∷ (2, 0) ∷ []) × (stands_in (layout_of First) k2 ≡ (1, 0) ∷ (2, 0) ∷ (3, 0) ∷ (3, 1) ∷ [])
unfolding stands_in
ranks_hold = (refl, refl)

pub proved : Claims
unfolding listing listing_in ranked_units
proved = record {
  samples_hold = samples_hold;
  finishes = λ l s. finishes l s true 0;
  finishes_in = λ l state s. finishes l s false state;
  numbered = λ l s. numbered l s true 0;
  pointed = λ l s. pointed l s;
  few = λ l s. few l s true 0;
  shallow = λ l s k. shallow l s true 0 k;
  deep = λ l s. (ranked_units_lem [] (listing l s).units, ranked_depths [] (listing l s).units);
  low = λ l s k. low l s true 0 k;
  ranks_hold = ranks_hold;
}
