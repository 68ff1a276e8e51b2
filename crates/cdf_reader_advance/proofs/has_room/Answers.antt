-- By whether the id's unit admits others.
use Rattle.std.proofs.Common.{refl, sym, ◌∙◌}
use Rattle.cdf_unit_table.proofs.Options.{none_told, some_told}
use Rattle.cdf_unit_table.proofs.Rows.{opens_by, leaf_by}
use Rattle.cdf_reader_advance.proofs.has_room.Goals as goal

pub returns-in-Some : goal.returns-in-Some
returns-in-Some c =
    let told = some_told _ _ (sym c.first_state.ensures ∙ c.in-Some.is) in
    rw (opens_by c.args.id _ told.0 told.1)

pub returns-in-None : goal.returns-in-None
returns-in-None c =
    let none = none_told _ (sym c.first_state.ensures ∙ c.in-None.is) in
    rw (leaf_by c.args.id _ refl none)
