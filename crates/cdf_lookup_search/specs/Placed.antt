-- Where a value that is found lies, which the search promises, and where a unit does, which its private functions ask.
use Rattle.std.specs.Prelude.{ℕ, ◌+◌, ◌≤◌, ◌≡◌}
use Rattle.cdf_unit_prefix.specs.Layout.{Layout, prefix_of}
use Rattle.cdf_unit_list.specs.declared.Unit.{Unit}
use Rattle.cdf_lookup_spec.specs.Find.{Value, at_span}

-- A value that is found lies in n bytes.
abbrev pub Placed : ℕ → Value → Type 0
Placed n v = (start end : ℕ) → v ≡ at_span start end → (start ≤ end) × (end ≤ n)

-- A unit's prefix, own data and end lie in n bytes, in this order.
pub record Lies (l : Layout) (n : ℕ) (u : Unit) : Type 0 where
  pub own : u.start + prefix_of l ≤ u.own
  pub end : u.own ≤ u.end
  pub within : u.end ≤ n
