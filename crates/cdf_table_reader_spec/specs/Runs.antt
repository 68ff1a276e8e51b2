-- Runs of the two readers over a list of the calls that both have. Each is given the place that its own last call returned.
use Rattle.std.specs.Prelude.{ℕ, List, [], ◌∷◌}
use Rattle.cdf_unit_prefix.specs.Layout.{Layout}
use Rattle.cdf_reader_spec.specs.Place.{ReaderPlace}
use Rattle.cdf_reader_spec.specs.Calls.{Reply, first_of, next_of, skip_of}
use Rattle.cdf_table_reader_spec.specs.Calls.{table_first, table_next, table_skip}

pub data Shared : Type 0 where
  start : Shared
  next : Shared
  skip : Shared

unfoldable pub table_call : List ℕ → Layout → List ℕ → ReaderPlace → Shared → Reply
unfolding table_first table_next table_skip
table_call table l s p start = table_first table l s
table_call table l s p next = table_next table l s p
table_call table l s p skip = table_skip l s p

unfoldable pub reader_call : Layout → List ℕ → ReaderPlace → Shared → Reply
unfolding first_of next_of skip_of
reader_call l s p start = first_of l s
reader_call l s p next = next_of l s p
reader_call l s p skip = skip_of l s p

-- All that each call answers: number, offset, unit with depth and rank, and the new place.
unfoldable pub run_by : (ReaderPlace → Shared → Reply) → ReaderPlace → List Shared → List Reply
run_by call p [] = []
run_by call p (c ∷ cs) = call p c ∷ run_by call (call p c).place cs

unfoldable pub table_run : List ℕ → Layout → List ℕ → ReaderPlace → List Shared → List Reply
unfolding run_by table_call
table_run table l s p cs = run_by (table_call table l s) p cs

unfoldable pub shared_run : Layout → List ℕ → ReaderPlace → List Shared → List Reply
unfolding run_by reader_call
shared_run l s p cs = run_by (reader_call l s) p cs
