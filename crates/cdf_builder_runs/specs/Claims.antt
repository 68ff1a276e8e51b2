-- Demand 2, the builder's half: exactly the lists of units that begin a tree of the published grammar are built, the bytes are that
-- tree's one encoding, and reading them gives the units back. `b` is a start and the calls after it, in the words of specs/Building;
-- by which requests a tree is told stands in specs/Telling. The term of this record stands in proofs/Proved.
use Rattle.std.specs.Prelude.{ℕ, ◌≡◌, List, [], ◌∷◌, ◌++◌, map, ◌↔◌, length, take, drop}
use Rattle.cdf_unit_prefix.specs.Layout.{Layout, layout_of}
use Rattle.cdf_unit_prefix.specs.declared.Edition.{Edition}
use Rattle.cdf_unit_list.specs.Ranks.{ranked_units}
use Rattle.cdf_unit_list.specs.Check.{check_of}
use Rattle.cdf_grammar.specs.Trees.{Forest}
use Rattle.cdf_grammar.specs.Published.{InGrammar}
use Rattle.cdf_grammar.specs.Encoding.{encode, Item}
use Rattle.cdf_grammar.specs.Claims.{items_of}
use Rattle.cdf_reader_runs.specs.Runs.{reading, outcome}
use Rattle.cdf_reader_runs.specs.Runs as Reading
use Rattle.cdf_builder_spec.specs.Requests.{Request, unit}
use Rattle.cdf_builder_spec.specs.Calls.{Reply}
use Rattle.cdf_builder_runs.specs.Runs.{answer, run, AllDone, done, Alike, requested, Lent, AllLent}
use Rattle.cdf_builder_runs.specs.Building.{Building, and_then, layout, asked, count, size, last, finish, AllZero, Allowed, the_end}
use Rattle.cdf_builder_runs.specs.Samples.{found, due}
use Rattle.cdf_builder_runs.specs.Telling.{Tells, Whole, Begins, BeginUnits, first_units}

-- These bytes hold this tree, and the requests told of it.
pub record Holds (l : Layout) (front : List ℕ) (t : Forest) (rs : List Request) : Type 0 where
  -- They are the tree's encoding.
  pub encoded : front ≡ encode l t
  -- The check accepts them, with as many units as were asked for.
  pub checked : check_of l front ≡ record { number = 0; value = length (requested l rs) }
  -- A start and nexts of the reader hand out these units, one after the other, with depth and rank, and then the end for ever;
  pub read : (k : ℕ) → outcome (reading l front k) ≡ Reading.due the_end (ranked_units l front) k
  -- and they say what was asked for, in the same order: id, action and own data.
  pub same : items_of l front ≡ requested l rs

-- The start and every call so far answered 0.
pub record Builds (b : Building) : Type 0 where
  -- The next call answers 0 exactly if it may be asked for too: the first that breaks a rule is refused.
  pub next : (r : Request) → Lent r → ((answer (layout b) (last b) r).number ≡ 0) ↔ Allowed (and_then b (r ∷ []))
  -- Of any tree that was begun, the front of the buffer is the encoding of the units asked for, all open ones ending where it does;
  pub begun : (t : Forest) (more : List Request) → InGrammar t → Tells (layout b) t (asked b ++ more) →
      take (size b) (last b).buffer ≡ encode (layout b) (first_units t (count b))
  -- and what is behind it is as it was.
  pub behind : drop (size b) (last b).buffer ≡ drop (size b) b.buffer
  -- Finish answers 0 and the size of what was asked for exactly if that is a whole tree of the published grammar,
  pub finished : (finish b ≡ record { number = 0; length = size b }) ↔ Whole (layout b) (asked b)
  -- and else 10.
  pub lacking : (Whole (layout b) (asked b) → ⊥) → finish b ≡ record { number = 10; length = 0 }
  -- The front of the buffer, as long as finish says, then holds that tree.
  pub built : (t : Forest) → InGrammar t → Tells (layout b) t (asked b) →
      Holds (layout b) (take (finish b).length (last b).buffer) t (asked b)

-- For every edition, every buffer, every root's id and every list of units and groups, each lent as bytes.
pub record Claims : Type 0 where
  -- The start and every call answer 0 exactly if what is asked for begins a tree, within the limit and the room.
  pub accepted : (b : Building) → AllLent b.calls → AllZero b ↔ Allowed b
  -- Then they build what was asked for.
  pub builds : (b : Building) → AllLent b.calls → AllZero b → Builds b
  -- A call that is refused changes nothing: place and buffer are those of the calls that answered 0.
  pub refusals : (l : Layout) (a : Reply) → a.number ≡ 0 → (rs : List Request) →
      AllDone l a (done l a rs) × Alike (run l a rs) (run l a (done l a rs))
  -- Units alone begin a tree exactly if they are the first that some tree says.
  pub plain : (e : Edition) (us : List Item) → Begins (layout_of e) (map unit us) ↔ BeginUnits us
  -- Runs that are computed: the claims are not vacuous.
  pub samples : found ≡ due
