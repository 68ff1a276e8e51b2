-- A turn by the format's table: it is the first reader's call, and the loop may go on with its place.
use Rattle.std.proofs.Common.{ℕ, ◌≡◌, sym, ◌∙◌, List}
use Rattle.std.specs.Prelude.{Result}
use Rattle.cdf_refusal.specs.declared.Fault.{Fault}
use Rattle.cdf_unit_prefix.specs.Layout.{Layout, layout_for}
use Rattle.cdf_reader_spec.specs.Calls.{call_of}
use Rattle.cdf_reader_spec.specs.declared.Call.{Call}
use Rattle.cdf_reader_spec.specs.declared.Call.TheVariants.{Start, Next}
use Rattle.cdf_reader_spec.proofs.Replying.{start_named, next_named}
use Rattle.cdf_reader_cursor.specs.Outcomes.{cursor_place, reply_from, no_cursor}
use Rattle.cdf_reader_cursor.specs.declared.Cursor.{Cursor}
use Rattle.cdf_reader_cursor.specs.declared.Outcome.{Outcome}
use Rattle.cdf_reader_step.specs.Kept.{cursor_kept}
use Rattle.cdf_reader_replay_spec.specs.Holding.{Held, cursor_after}
use Rattle.cdf_reader_replay_spec.proofs.Holding.{goes_on}
use Rattle.cdf_table_reader_spec.specs.Table.{entries}
use Rattle.cdf_table_reader_spec.specs.Calls.{table_first, table_next}
use Rattle.cdf_table_reader_spec.proofs.Alike.{first_alike, next_alike}
use Rattle.cdf_table_reader_spec.proofs.Other.{start_other, next_other}

module _ (table s : List ℕ) (is : table ≡ entries) (p : Cursor) (held : Held s p) where
  abbrev l : Layout
  l = layout_for s

  abbrev Goes : Call → Result Outcome Fault → Type 0
  Goes call r = (reply_from (cursor_kept call p) r ≡ call_of l s (cursor_place p) call) × Held s (cursor_after call p r)

  pub starts : (call : Call) → call ≡ Start → (r : Result Outcome Fault) → reply_from no_cursor r ≡ table_first table l s → Goes call r
  starts call e r w =
      rw e (goes_on s p held Start r (w ∙ rw is (first_alike l s) ∙ sym (start_named l s (cursor_place p)), λ z. start_other z))

  pub nexts : (call : Call) → call ≡ Next → (r : Result Outcome Fault) → reply_from p r ≡ table_next table l s (cursor_place p) → Goes call r
  nexts call e r w =
      rw e (goes_on s p held Next r (w ∙ rw is (next_alike l s (cursor_place p)) ∙ sym (next_named l s (cursor_place p)), λ z. next_other z))
