-- The loop keeps `Running` of the codes as the reader hears them (cdf_reader_replay_spec/proofs/Hearing).
use Rattle.std.proofs.Common.{map, refl, sym, ◌∙◌}
use Rattle.cdf_reader_replay_spec.proofs.Replaying.{begun}
use Rattle.cdf_reader_replay_spec.proofs.Hearing.{ends, stops, goes}
use Rattle.cdf_reader_replay.proofs.run.Goals as goal

pub loop-k-init : goal.loop-k-init
loop-k-init g c = rw c.no_cursor-c.ensures (begun c.args.s.now (map g.T.Turns.heard c.args.calls.now) c.args.log.now)

pub returns-in_default : goal.returns-in_default
returns-in_default g c =
    let all = stops g.T.Turns.heard _ _ _ c.loop-k.invariant c.loop-k-test.true (sym c.call_of.ensures ∙ c.in_default.is) in
    record { count = all.0; written = all.1 }

pub loop-k-preserved : goal.loop-k-preserved
loop-k-preserved g c =
    rw c.after-c.ensures
    (goes g.T.Turns.heard _ _ _ c.loop-k.invariant c.loop-k-test.true c.in-Some.call (sym c.call_of.ensures ∙ c.in-Some.is) c.turn-told.result _
    (c.turn-told.ensures.due c.loop-k.invariant.held c.edition_of-edition.ensures)
    (c.turn-told.ensures.held c.loop-k.invariant.held c.edition_of-edition.ensures) refl _ c.write_entry.ensures)

pub returns : goal.returns
returns g c =
    let all = ends g.T.Turns.heard _ _ _ c.loop-k.invariant c.loop-k-test.false in
    record { count = all.0; written = all.1 }
