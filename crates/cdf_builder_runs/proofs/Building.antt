-- What a start and calls come to, from what their place and buffer stand for.
use Rattle.std.proofs.Common.{ℕ, ◌≡◌, refl, sym, ap, ◌∙◌, Bool, true, false, List, [], ◌∷◌, ◌++◌, ◌↔◌, arith, length, take, length-take}
use mathlib.Core.List.{cons≢nil}
use Rattle.cdf_unit_prefix.specs.Layout.{Layout, layout_of, prefix_of}
use Rattle.cdf_unit_prefix.specs.declared.Edition.{Edition}
use Rattle.cdf_unit_list.specs.Units.{listing}
use Rattle.cdf_unit_list.specs.Ranks.{ranked_units}
use Rattle.cdf_unit_list.specs.Check.{Verdict, check_of}
use Rattle.cdf_grammar.specs.Trees.{Forest, none, tree, ids, units}
use Rattle.cdf_grammar.specs.Published.{InGrammar}
use Rattle.cdf_grammar.specs.Encoding.{Stream, encode, says}
use Rattle.cdf_grammar.specs.Claims.{items_of}
use Rattle.cdf_grammar.proofs.Built.{length_unit}
use Rattle.cdf_grammar.proofs.Agrees.{root_agrees}
use Rattle.cdf_grammar.proofs.Proved as Grammar
use Rattle.cdf_reader_runs.specs.Runs.{Outcome, due, afterwards}
use Rattle.cdf_reader_runs.proofs.Proved as Reading
use Rattle.cdf_builder_spec.specs.Place.{BuilderPlace, fits}
use Rattle.cdf_builder_spec.specs.Requests.{Request, unit, bytes_for, completed}
use Rattle.cdf_builder_spec.specs.Calls.{Finish, finish_of}
use Rattle.cdf_builder_spec.proofs.Fitting.{fitting}
use Rattle.cdf_builder_runs.specs.Runs.{root_item, requested, Lent, AllLent}
use Rattle.cdf_builder_runs.specs.Building.{Building, and_then, layout, asked, count, size, first, last, finish, AllZero, Allowed, the_end}
use Rattle.cdf_builder_runs.specs.Telling.{Tells, Whole, Begins, first_units}
use Rattle.cdf_builder_runs.specs.Claims.{Holds, Builds}
use Rattle.cdf_builder_runs.proofs.Answers.{first_done, run_length, run_place, run_fits, done_after, done_on}
use Rattle.cdf_builder_runs.proofs.Forward.{forward, begins_admitted}
use Rattle.cdf_builder_runs.proofs.Rooms.{sizes_on, run_written, Begun, begun, all_done}
use Rattle.cdf_builder_runs.proofs.Kept.{KeptBy, kept_start, kept_run}
use Rattle.cdf_builder_runs.proofs.Ending.{Ended, all_ended, begins_from}
use Rattle.cdf_builder_runs.proofs.Said.{stream_says, requested_says, told_once}
use Rattle.cdf_builder_runs.proofs.FirstUnits.{length_says, front_first}

-- Finish, at a place that fits.
module _ (l : Layout) (n : ℕ) (p : BuilderPlace) (fit : fits l n p ≡ true) where
  finish_whole : completed p.units ≡ true → finish_of l n p ≡ record { number = 0; length = p.written }
  unfolding finish_of
  finish_whole full = rw (fit, full)

  finish_lacks : completed p.units ≡ false → finish_of l n p ≡ record { number = 10; length = 0 }
  unfolding finish_of
  finish_lacks bare = rw (fit, bare)

-- The root says something.
says_some : (t : Forest) (id : ℕ) → ids t ≡ id ∷ [] → says t ≡ [] → ⊥
unfolding says ids
says_some none id e z = cons≢nil (sym e)
says_some (tree i action text inner rest) id e z = cons≢nil z

-- No unit listed, none that says anything.
none_listed : (l : Layout) (s : List ℕ) → (listing l s).units ≡ [] → items_of l s ≡ []
unfolding items_of
none_listed l s e = rw e

-- What the reader tells past the last unit of an accepted stream.
the_end_lem : (n : ℕ) → afterwards (record { number = 0; value = n }) ≡ the_end
unfolding afterwards
the_end_lem n = refl

-- A stream that the builder made: the check accepts it, and reading gives its units back.
stream_holds : (e : Edition) (front : List ℕ) (t : Forest) (rs : List Request) → Stream (layout_of e) front t → Tells (layout_of e) t rs →
    Holds (layout_of e) front t rs
stream_holds e front t rs p tells =
    let l = layout_of e in
    let items : items_of l front ≡ requested l rs = stream_says e front t p ∙ requested_says e t rs tells in
    let accepted = ((Grammar.proved).streams e).counted front t p in
    let count : units t ≡ length (requested l rs) = sym (length_says t) ∙ ap length (requested_says e t rs tells) in
    let end : afterwards (check_of l front) ≡ the_end = ap afterwards accepted ∙ the_end_lem (units t) in
    let root = (root_agrees t).0 p.tree.root in
    let some : (listing l front).units ≡ [] → ⊥ =
    λ z. says_some t root.0 root.1 (sym (stream_says e front t p) ∙ none_listed l front z) in
    record {
      encoded = sym p.bytes;
      checked = accepted ∙ ap {B = Verdict} (λ n. record { number = 0; value = n }) count;
      read = λ k. (Reading.proved).reads l front some k ∙ ap (λ (x : Outcome). due x (ranked_units l front) k) end;
      same = items;
    }

lent_on : (rs : List Request) (r : Request) → AllLent rs → Lent r → AllLent (rs ++ (r ∷ []))
lent_on [] r lent more = (more, record {})
lent_on (x ∷ rs) r lent more = (lent.0, lent_on rs r lent.1 more)

module _ (b : Building) where
  abbrev l : Layout
  l = layout b

  root_size : length (bytes_for l (unit (root_item b.root))) ≡ prefix_of l
  unfolding bytes_for
  root_size = length_unit l b.root 0 [] [] ∙ omega arith

  module _ (done : AllZero b) where
    start : Begun l b.buffer b.root (first b)
    start = begun b.edition b.buffer b.root (first_done l (first b) b.calls done)

    fit : fits l (length b.buffer) (last b).place ≡ true
    fit = rw (run_length l (first b) b.calls, start.long) at (run_fits l b.calls (first b) start.fit done)

    pub written : (last b).place.written ≡ size b
    written = run_written l b.calls (first b) done ∙ rw (start.place, sizes_on, root_size)

  module _ (lent : AllLent b.calls) (done : AllZero b) where
    kept : KeptBy l b.buffer (last b) (asked b)
    kept =
        kept_run b.edition b.buffer (first b) (unit (root_item b.root) ∷ []) b.calls lent
        (kept_start l b.buffer b.root (first_done l (first b) b.calls done)) done

    abbrev front : List ℕ
    front = take (last b).place.written (last b).buffer

    begins : Begins l (asked b)
    begins = let w = kept.spine in begins_from l w.frames w.kids (last b).place.units (asked b) w.held w.conforms w.told

    ends : completed (last b).place.units ≡ true → Ended l (asked b) front
    ends full = all_ended l (last b).place.written (last b).place.units (asked b) front full kept.spine

    complete : Whole l (asked b) → completed (last b).place.units ≡ true
    complete w = rw (run_place l (first b) b.calls done, (start done).place) (forward b.edition b.root b.calls w).2

    -- So finish answers 0 exactly where some tree is told as a whole.
    whole_answer : completed (last b).place.units ≡ true → finish b ≡ record { number = 0; length = size b }
    whole_answer full = finish_whole l (length b.buffer) (last b).place (fit done) full ∙ rw (written done)

    full_by : (finish b).number ≡ 0 → completed (last b).place.units ≡ true
    full_by z = go (completed (last b).place.units) refl
      where
        go : (c : Bool) → completed (last b).place.units ≡ c → completed (last b).place.units ≡ true
        go true e = e
        go false e =
            let ten = ap (λ (f : Finish). f.number) (finish_lacks l (length b.buffer) (last b).place (fit done) e) in
            absurd (omega (arith, ten, z))

    pub whole_by : (finish b).number ≡ 0 → Whole l (asked b)
    whole_by z = let w = ends (full_by z) in (w.told, w.grammar, w.tells)

    finished : (finish b ≡ record { number = 0; length = size b }) ↔ Whole l (asked b)
    finished = (λ z. whole_by (ap (λ (f : Finish). f.number) z), λ w. whole_answer (complete w))

    lacking : (Whole l (asked b) → ⊥) → finish b ≡ record { number = 10; length = 0 }
    lacking bare = go (completed (last b).place.units) refl
      where
        go : (c : Bool) → completed (last b).place.units ≡ c → finish b ≡ record { number = 10; length = 0 }
        go true e = let w = ends e in absurd (bare (w.told, w.grammar, w.tells))
        go false e = finish_lacks l (length b.buffer) (last b).place (fit done) e

    begun_front : (t : Forest) (more : List Request) → InGrammar t → Tells l t (asked b ++ more) →
        take (size b) (last b).buffer ≡ encode l (first_units t (count b))
    begun_front t more grammar tells =
        rw (← written done) (front_first b.edition (last b).place.written (last b).place.units (root_item b.root) b.calls front
        kept.spine t more grammar tells)

    holds : (t : Forest) → InGrammar t → Tells l t (asked b) → Holds l (take (finish b).length (last b).buffer) t (asked b)
    holds t grammar tells =
        let full = complete (t, grammar, tells) in
        let w = ends full in
        let same : w.told ≡ t = told_once b.edition w.told t (asked b) w.grammar grammar w.tells tells in
        let limit = (fitting l (length b.buffer) (last b).place (fit done)).limit in
        rw (finish_whole l (length b.buffer) (last b).place (fit done) full)
        (stream_holds b.edition front t (asked b)
        (record { tree = grammar; within = simp length-take (omega (arith, limit)); bytes = sym (w.bytes ∙ ap (encode l) same) }) tells)

  pub accepted : AllLent b.calls → AllZero b ↔ Allowed b
  accepted lent =
      let all = all_done b.edition b.buffer b.root b.calls in (
        λ done.
            let room = all.0 done in
            (begins lent done, rw (sizes_on, root_size) room.2, rw (sizes_on, root_size) room.3),
        λ w.
            let may = begins_admitted b.edition b.root b.calls w.0 in
            all.1 (may.0, may.1, rw (sizes_on, root_size) at w.1, rw (sizes_on, root_size) at w.2),
      )

pub builds : (b : Building) → AllLent b.calls → AllZero b → Builds b
builds b lent done = record {
  next = λ r more.
      let l = layout b in
      let all = accepted (and_then b (r ∷ [])) (lent_on b.calls r lent more) in (
        λ z. all.0 (done_on l (first b) b.calls r done z),
        λ w. (done_after l (first b) b.calls (r ∷ []) (all.1 w)).1,
      );
  begun = begun_front b lent done;
  behind = rw (← written b done) (kept b lent done).behind;
  finished = finished b lent done;
  lacking = lacking b lent done;
  built = holds b lent done;
}
