-- Whether a search is over, so that no further unit matters: what a private function tells.
use Rattle.std.specs.Prelude.{Bool, true, false}
use Rattle.cdf_lookup_spec.specs.declared.Search.{Search}
use Rattle.cdf_lookup_spec.specs.declared.Search.TheVariants.{Seeking, Named, Inside, Over}

abbrev pub is_over : Search → Bool
is_over Seeking = false
is_over (Named end) = false
is_over (Inside end) = false
is_over (Over value) = true
