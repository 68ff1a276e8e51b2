-- The words of the open contracts: the answer that is due, and the part that goes with it, by its bytes and by where it stands.
use Rattle.std.specs.Prelude.{ℕ, ◌+◌, ◌≡◌, List, take, drop}
use Rattle.std.specs.Borrow.{Bor}
use Rattle.cdf_unit_prefix.specs.Layout.{layout_for}
use Rattle.cdf_lookup_spec.specs.Find.{query, Lookup, lookup_of}
use Rattle.cdf_lookup_spec.specs.Chosen.{stream_of}

-- A lent slice: where it stands, and its bytes.
abbrev pub Lent : Type 0
Lent = Bor (List ℕ)

-- By the bytes of two streams, each of its own edition, of a template's name, of a key of this id, and of a field's name.
abbrev pub due : Lent → Lent → Lent → ℕ → Lent → Lent → Lookup
due first second template kind key field =
    lookup_of (layout_for first.now) (layout_for second.now) first.now second.now (query template.now kind key.now field.now)

-- The part that goes with an answer: its bytes in the stream that the answer names,
pub record Lends (a : Lookup) (first second part : Lent) : Type 0 where
  pub bytes : part.now ≡ take a.size (drop a.start (stream_of a.which first.now second.now))
  -- the memory of that stream, and how far behind its front the part begins.
  pub memory : part.ref_ptr.0 ≡ (stream_of a.which first second).ref_ptr.0
  pub stands : part.ref_ptr.1 ≡ (stream_of a.which first second).ref_ptr.1 + a.start
