-- What is built from one start, and the words in which the claims speak of it.
use Rattle.std.specs.Prelude.{ℕ, ◌≤◌, List, ◌∷◌, ◌++◌, length}
use Rattle.cdf_unit_prefix.specs.Layout.{Layout, layout_of}
use Rattle.cdf_unit_prefix.specs.declared.Edition.{Edition}
use Rattle.cdf_reader_spec.specs.Calls.{no_ranked}
use Rattle.cdf_reader_runs.specs.Runs.{Outcome}
use Rattle.cdf_builder_spec.specs.Requests.{Request, unit}
use Rattle.cdf_builder_spec.specs.Calls.{Reply, start_of, Finish, finish_of}
use Rattle.cdf_builder_runs.specs.Runs.{root_item, run, AllDone, sizes, requested}
use Rattle.cdf_builder_runs.specs.Telling.{Begins}

-- A start with a root's id, on a buffer that nobody else writes, and the calls after it.
pub record Building : Type 0 where
  pub edition : Edition
  pub buffer : List ℕ
  pub root : ℕ
  pub calls : List Request

-- With more calls.
abbrev pub and_then : Building → List Request → Building
and_then b rs = record { edition = b.edition; buffer = b.buffer; root = b.root; calls = b.calls ++ rs }

abbrev pub layout : Building → Layout
layout b = layout_of b.edition

-- All that is asked for: a start asks for the root.
abbrev pub asked : Building → List Request
asked b = unit (root_item b.root) ∷ b.calls

-- How many units that is, and how many bytes.
abbrev pub count : Building → ℕ
count b = length (requested (layout b) (asked b))

abbrev pub size : Building → ℕ
size b = sizes (layout b) (asked b)

-- What the start answers, what the last call answers, and what finish answers then.
abbrev pub first : Building → Reply
first b = start_of (layout b) b.buffer b.root

abbrev pub last : Building → Reply
last b = run (layout b) (first b) b.calls

abbrev pub finish : Building → Finish
finish b = finish_of (layout b) (length b.buffer) (last b).place

-- The start and every call answer 0.
abbrev pub AllZero : Building → Type 0
AllZero b = AllDone (layout b) (first b) b.calls

-- What is asked for begins a tree of the published grammar; its bytes are within the limit and have room in the buffer.
abbrev pub Allowed : Building → Type 0
Allowed b = Begins (layout b) (asked b) × (size b ≤ (layout b).limit) × (size b ≤ length b.buffer)

-- What the reader tells past the last unit of an accepted stream.
abbrev pub the_end : Outcome
the_end = record { number = 1; offset = 0; handed = no_ranked }
