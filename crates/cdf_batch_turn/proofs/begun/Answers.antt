-- Test by test.
use Rattle.std.proofs.Common.{ℕ, ◌≡◌, sym, ap, ◌∙◌, Bool, true, false, rules, ltb}
use Rattle.cdf_unit_prefix.specs.Layout.{layout_of}
use Rattle.cdf_unit_prefix.specs.declared.Edition.TheVariants.{First}
use Rattle.cdf_builder_spec.specs.Place.{fits}
use Rattle.cdf_builder_spec.specs.Slots.{placed}
use Rattle.cdf_builder_spec.specs.declared.Parts.{Parts}
use Rattle.cdf_batch_turn.specs.declared.PlaceNumbers.{PlaceNumbers}
use Rattle.cdf_batch_turn.specs.Numbers.{viewed, parts_from}
use Rattle.cdf_batch_turn.proofs.begun.Goals as goal

-- What is told of the parts is told of the numbers.
fit : (n : ℕ) (place : PlaceNumbers) (p : Parts) → p ≡ parts_from place → (is b : Bool) → is ≡ fits (layout_of First) n (placed p) → is ≡ b →
    fits (layout_of First) n (viewed place) ≡ b
fit n place p parts is b e t = sym (e ∙ ap (λ (x : Parts). fits (layout_of First) n (placed x)) parts) ∙ t

pub returns-then-not-is_fit : goal.returns-then-not-is_fit
returns-then-not-is_fit c =
    rw (fit c.args.n c.args.place _ c.from.ensures _ false c.is_fit.ensures (search rules))

pub returns-then-count-gt-MOST : goal.returns-then-count-gt-MOST
returns-then-count-gt-MOST c =
    let many : ltb 512 c.args.count ≡ true = search rules in
    rw (fit c.args.n c.args.place _ c.from.ensures _ true c.is_fit.ensures (search rules), many)

pub returns : goal.returns
returns c =
    let few : ltb 512 c.args.count ≡ false = search rules in
    rw (fit c.args.n c.args.place _ c.from.ensures _ true c.is_fit.ensures (search rules), few)
