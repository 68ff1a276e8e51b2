-- Of a stream of the published grammar, one pass over its unit list finds the value that the definition says.
use Rattle.std.proofs.Common.{ℕ, ◌+◌, ◌≡◌, ap, List, length}
use Rattle.cdf_unit_prefix.specs.Layout.{layout_of}
use Rattle.cdf_unit_prefix.specs.declared.Edition.{Edition}
use Rattle.cdf_unit_list.specs.Units.{Listing}
use Rattle.cdf_grammar.specs.Trees.{Forest}
use Rattle.cdf_grammar.specs.Encoding.{Stream, encode, list}
use Rattle.cdf_grammar.proofs.Proved.{stream_listing}
use Rattle.cdf_lookup_spec.specs.Find.{Query, value_in}
use Rattle.cdf_lookup_spec.specs.Search.{search_of}
use Rattle.cdf_lookup_spec.proofs.Ordered.{rising, keyed}
use Rattle.cdf_lookup_spec.proofs.Searching.{pass_finds}

pub search_finds : (e : Edition) (s : List ℕ) (q : Query) (t : Forest) → Stream (layout_of e) s t →
    search_of (layout_of e) s q ≡ value_in (layout_of e) s q
unfolding search_of value_in
search_finds e s q t p =
    let l = layout_of e in
    rw (ap (λ (r : Listing). r.units) (stream_listing e s t p))
    (pass_finds l s q (list l 0 t) (0 + length (encode l t)) (rising l 0 t) (keyed l 0 t p.tree.conforms))
