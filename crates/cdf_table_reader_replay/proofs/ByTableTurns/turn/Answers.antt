-- By the format's table each call is the first reader's, at a place that the loop holds (cdf_table_reader_replay_spec/proofs/Turning).
use Rattle.std.proofs.Common.{ℕ, ◌≡◌, refl, ◌∙◌, Bool, true, false, cond, List, eqb-true, eqb}
use Rattle.std.proofs.lemmas.Bool.{eqb-false}
use Rattle.std.specs.Prelude.{Result}
use Rattle.cdf_refusal.specs.declared.Fault.{Fault}
use Rattle.cdf_unit_prefix.specs.Layout.{Layout, edition_of, layout_for}
use Rattle.cdf_unit_prefix.specs.declared.Edition.{Edition}
use Rattle.cdf_reader_spec.specs.Place.{ReaderPlace}
use Rattle.cdf_reader_spec.specs.Calls.{call_of, refuse}
use Rattle.cdf_reader_spec.specs.declared.Call.{Call}
use Rattle.cdf_reader_spec.specs.declared.Call.TheVariants.{Start, Next, Skip, GetStream, Previous}
use Rattle.cdf_reader_cursor.specs.Outcomes.{cursor_place, reply_from}
use Rattle.cdf_reader_cursor.specs.declared.Cursor.{Cursor}
use Rattle.cdf_reader_cursor.specs.declared.Outcome.{Outcome}
use Rattle.cdf_reader_advance.specs.Advancing.{advanced_with}
use Rattle.cdf_reader_step.specs.Asked.{next_with}
use Rattle.cdf_reader_step.specs.Kept.{cursor_kept, Again}
use Rattle.cdf_reader_step.proofs.Nexts.{useless, goes_on as goes_on_by}
use Rattle.cdf_table_reader_spec.specs.Table.{entries}
use Rattle.cdf_table_reader_spec.specs.Calls.{table_judge, table_next}
use Rattle.cdf_reader_replay_spec.specs.Holding.{Held, cursor_after}
use Rattle.cdf_reader_replay_spec.proofs.Holding.{goes_on}
use Rattle.cdf_table_reader_replay_spec.proofs.Turning.{starts, nexts}
use Rattle.cdf_table_reader_replay.specs.Turned.{turned_by}
use Rattle.cdf_table_reader_replay.proofs.ByTableTurns.turn.Goals as goal

-- The step by a table is NEXT by it.
next_named : (table s : List ℕ) (l : Layout) (v : ReaderPlace) → next_with (table_judge table l false) l s v ≡ table_next table l s v
unfolding next_with table_next
next_named table s l v = refl

-- At a place that the loop holds its step needs no test.
stepped : (table s : List ℕ) (c : Cursor) → Held s c →
    turned_by table (layout_for s) s c Next ≡ table_next table (layout_for s) s (cursor_place c)
stepped table s c h = go (eqb c.units.count 0) refl ∙ next_named table s (layout_for s) (cursor_place c)
  where
    go : (b : Bool) → eqb c.units.count 0 ≡ b →
        cond b (refuse 11 0 (cursor_place c)) (advanced_with (table_judge table (layout_for s) false) s (cursor_place c))
        ≡ next_with (table_judge table (layout_for s) false) (layout_for s) s (cursor_place c)
    go true e = useless _ _ _ _ (eqb-true c.units.count 0 e)
    go false e = let some = eqb-false c.units.count 0 e in goes_on_by _ _ _ _ some (h some)

-- What is promised where the loop holds the place.
abbrev Goes : List ℕ → Cursor → Edition → Call → Result Outcome Fault → Type 0
Goes s c edition call r =
    Held s c → edition ≡ edition_of s →
    (reply_from (cursor_kept call c) r ≡ call_of (layout_for s) s (cursor_place c) call) × Held s (cursor_after call c r)

goes : (table s : List ℕ) → table ≡ entries → (c : Cursor) → Held s c → (call : Call) → (r : Result Outcome Fault) →
    reply_from (cursor_kept call c) r ≡ turned_by table (layout_for s) s c call → (call ≡ Previous → Again c r) →
    (reply_from (cursor_kept call c) r ≡ call_of (layout_for s) s (cursor_place c) call) × Held s (cursor_after call c r)
goes table s is c h Start r told again = starts table s is c h Start refl r told
goes table s is c h Next r told again = nexts table s is c h Next refl r (told ∙ stepped table s c h)
goes table s is c h Skip r told again = goes_on s c h Skip r (told, again)
goes table s is c h GetStream r told again = goes_on s c h GetStream r (told, again)
goes table s is c h Previous r told again = goes_on s c h Previous r (told, again)

pub returns : goal.returns
returns c =
    let a = c.args in
    let told = c.turn_by.ensures in
    let all : Goes a.s.now a.c a.edition a.call c.turn_by.result = λ h e.
    goes a.self.now.table a.s.now c.args.self.now.published a.c h a.call c.turn_by.result (rw e at told.is) told.again in
    record { is = told.is; due = λ h e. (all h e).0; held = λ h e. (all h e).1 }
