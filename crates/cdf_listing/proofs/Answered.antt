-- The text by the check's answer.
use Rattle.std.proofs.Common.{ℕ, ◌≡◌, refl, List, ◌++◌, length}
use Rattle.cdf_unit_table.proofs.Bools.{clash}
use Rattle.cdf_unit_prefix.specs.Layout.{Layout}
use Rattle.cdf_unit_list.specs.Units.{End, unfinished, ended, fault, listing}
use Rattle.cdf_unit_list.proofs.Proved.{proved}
use Rattle.cdf_check.specs.Answers.{checked_by, checked_of, Accepted, Refused}
use Rattle.cdf_listing_spec.specs.Text.{listed_lines, ok_line, refused_line, listing_text}
use Rattle.cdf_listing_spec.proofs.Short.{ok_text, refused_text}

module _ (l : Layout) (s : List ℕ) where
  pub accepted : (n : ℕ) → checked_of (listing l s) ≡ Accepted n → listing_text l s ≡ listed_lines l s ++ ok_line n
  unfolding checked_of checked_by
  accepted n e = go (listing l s).end refl e
    where
      go : (x : End) → (listing l s).end ≡ x → checked_by (length (listing l s).units) x ≡ Accepted n →
          listing_text l s ≡ listed_lines l s ++ ok_line n
      go unfinished q e = absurd (proved.finishes l s q)
      go ended q e = let same : length (listing l s).units ≡ n = cc in rw (← same) (ok_text l s q)
      go (fault k at) q e = clash cc

  pub turned_down : (n offset : ℕ) → checked_of (listing l s) ≡ Refused n offset → listing_text l s ≡ refused_line n offset
  unfolding checked_of checked_by
  turned_down n offset e = go (listing l s).end refl e
    where
      go : (x : End) → (listing l s).end ≡ x → checked_by (length (listing l s).units) x ≡ Refused n offset →
          listing_text l s ≡ refused_line n offset
      go unfinished q e = absurd (proved.finishes l s q)
      go ended q e = clash cc
      go (fault k at) q e =
          let number : k ≡ n = cc in
          let place : at ≡ offset = cc in
          rw (← number, ← place) (refused_text l s k at q)
