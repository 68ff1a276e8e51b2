-- A group admits others.
use Rattle.std.proofs.Common.{ℕ, ◌≡◌, refl, true}
use mathlib.Core.Bool.{or-false, or-true}
use Rattle.cdf_unit_table.specs.Ids.{member}
use Rattle.cdf_unit_table.specs.States.{nothing, opens, root_kind}
use Rattle.cdf_unit_table.proofs.Rows.{root_opens, opens_by}
use Rattle.cdf_reader_spec.specs.Calls.{is_group}

-- It is of a root's kind, so that it does.
pub group_root : (id : ℕ) → is_group id ≡ true → root_kind id ≡ true
unfolding root_kind member
group_root id e = rw (or-false, e, or-true)

pub group_opens : (id : ℕ) → is_group id ≡ true → opens id ≡ true
group_opens id e = opens_by id (nothing id) refl (root_opens id (group_root id e))
