-- Seven stores.
use Rattle.std.proofs.Common.{◌≤◌, ap, ◌∙◌, ◌++◌, append-nil, arith, length, drop_of_length-le}
use Rattle.std.proofs.lemmas.List.Edits.{sets-eq}
use Rattle.cdf_reader_units.specs.Filling.{unit_numbers}
use Rattle.cdf_reader_units.proofs.write_unit.Goals as goal

pub returns : goal.returns
returns c =
    let a = c.args in
    let all = unit_numbers a.handed in
    let room : 7 ≤ length a.entry.now = omega (arith, c.requires) in
    let full : length a.entry.now ≤ 7 = omega (arith, c.requires) in
    sets-eq all a.entry.now 0 room ∙ ap (λ l. all ++ l) (drop_of_length-le a.entry.now full) ∙ append-nil all
