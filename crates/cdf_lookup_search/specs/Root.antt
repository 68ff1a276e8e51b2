-- What a start's answer tells of the root.
use Rattle.std.specs.Prelude.{Bool, false, Result, Ok, Err, eqb}
use Rattle.cdf_refusal.specs.declared.Fault.{Fault}
use Rattle.cdf_unit_table.specs.Ids.{er_group}
use Rattle.cdf_reader.specs.declared.Answer.{Answer}

-- Of any answer: the unit that it hands out has the id of an E/R group; a refusal hands out none.
abbrev pub group_root : Result Answer Fault → Bool
group_root (Ok a) = eqb a.handed.unit.id er_group
group_root (Err f) = false
