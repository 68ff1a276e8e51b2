-- The lengths of open units, one after the other; and what is written leaves the buffer its length.
use Rattle.std.proofs.Common.{ℕ, ◌+◌, ◌-◌, ◌≡◌, refl, ◌∙◌, List, [], ◌∷◌, length}
use Rattle.cdf_unit_prefix.specs.Layout.{Layout}
use Rattle.cdf_grammar.specs.Encoding.{bytes_of}
use Rattle.cdf_builder_write.specs.Patch.{patch}
use Rattle.cdf_builder_write.proofs.Patching.{length_patch}
use Rattle.cdf_builder_spec.specs.declared.Begun.{Begun}
use Rattle.cdf_builder_spec.specs.Place.{BuilderPlace}
use Rattle.cdf_builder_spec.specs.Calls.{lengths, write_of}

pub lengths_none : (l : Layout) (w : ℕ) (s : List ℕ) → lengths l w [] s ≡ s
unfolding lengths
lengths_none l w s = refl

pub lengths_one : (l : Layout) (w : ℕ) (o : Begun) (os : List Begun) (s : List ℕ) →
    lengths l w (o ∷ os) s ≡ patch (o.start + 2) (bytes_of l.length_bytes (w - o.start)) (lengths l w os s)
unfolding lengths
lengths_one l w o os s = refl

pub length_lengths : (l : Layout) (w : ℕ) (os : List Begun) (s : List ℕ) → length (lengths l w os s) ≡ length s
unfolding lengths
length_lengths l w [] s = refl
length_lengths l w (o ∷ os) s =
    length_patch (o.start + 2) (bytes_of l.length_bytes (w - o.start)) (lengths l w os s) ∙ length_lengths l w os s

pub length_write : (l : Layout) (at : ℕ) (p : BuilderPlace) (bytes s : List ℕ) → length (write_of l at p bytes s) ≡ length s
unfolding write_of
length_write l at p bytes s = length_lengths l p.written p.units (patch at bytes s) ∙ length_patch at bytes s
