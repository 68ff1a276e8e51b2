-- A struct's answer, told in numbers.
use Rattle.std.proofs.Common.{ℕ, ◌≡◌, refl, sym, ap, ◌∙◌, List}
use Rattle.std.specs.Prelude.{Result, Ok, Err}
use Rattle.cdf_refusal.specs.declared.Refusal.{Refusal}
use Rattle.cdf_unit_prefix.specs.Layout.{layout_of}
use Rattle.cdf_unit_prefix.specs.declared.Edition.TheVariants.{First}
use Rattle.cdf_builder_spec.specs.Requests.{Request}
use Rattle.cdf_builder_spec.specs.Calls.{Reply, call_of}
use Rattle.cdf_builder_spec.specs.Told.{told}
use Rattle.cdf_builder.specs.View.{view, reply_of}
use Rattle.cdf_builder.specs.declared.Builder.{Builder}
use Rattle.cdf_builder_numbers.specs.Numbers.{builder_from, stored, reply_from, call_from}

-- What is told and left of the numbers of a place that a call was given, and of its answer, is the reply that is due.
pub answered : {due : Reply} (before buffer : List ℕ) (p : Builder) → p ≡ builder_from before → (a : Result Builder Refusal) →
    reply_of p a buffer ≡ due → (number : ℕ) → number ≡ told a → (after : List ℕ) → after ≡ stored a before →
    (reply_from number after buffer ≡ due) × ((number ≡ 0 → ⊥) → after ≡ before)
answered before buffer p from (Ok q) due number same after is = (rw (same, is) due, λ some. absurd (some same))
answered before buffer p from (Err f) due number same after is =
    (rw (same, is) (ap (λ (q : Builder). reply_of q (Err f) buffer) (sym from) ∙ due), λ some. is)

abbrev at : List ℕ → Request → Builder → Reply
at s r p = call_of (layout_of First) s (view p) r

-- A call at the place that numbers are.
pub called : (s before : List ℕ) (r : Request) (p : Builder) → p ≡ builder_from before → (a : Result Builder Refusal) →
    (buffer : List ℕ) → reply_of p a buffer ≡ at s r p → (number : ℕ) → number ≡ told a → (after : List ℕ) → after ≡ stored a before →
    (reply_from number after buffer ≡ call_from s before r) × ((number ≡ 0 → ⊥) → after ≡ before)
called s before r p from a buffer due = answered before buffer p from a (due ∙ ap (at s r) from)
