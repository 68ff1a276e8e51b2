-- Trees after trees: their ids, their encoding, that they conform, and which requests tell of them.
use Rattle.std.proofs.Common.{◌≡◌, refl, sym, List, ◌++◌, append_assoc, inl, inr, ⊎_elim}
use Rattle.cdf_unit_prefix.specs.Layout.{Layout}
use Rattle.cdf_grammar.specs.Trees.{Forest, none, tree, ids}
use Rattle.cdf_grammar.specs.Published.{Conforms}
use Rattle.cdf_grammar.specs.Encoding.{unit_bytes, encode}
use Rattle.cdf_grammar.proofs.Built.{encode_none, encode_tree}
use Rattle.cdf_builder_spec.specs.Requests.{Request}
use Rattle.cdf_builder_runs.specs.Telling.{Tells}

unfoldable pub append : Forest → Forest → Forest
append none g = g
append (tree id action text inner rest) g = tree id action text inner (append rest g)

pub ids_append : (f g : Forest) → ids (append f g) ≡ ids f ++ ids g
unfolding append ids
ids_append none g = refl
ids_append (tree id action text inner rest) g = rw (ids_append rest g)

pub encode_append : (l : Layout) (f g : Forest) → encode l (append f g) ≡ encode l f ++ encode l g
unfolding append
encode_append l none g = rw encode_none
encode_append l (tree id action text inner rest) g =
    rw (encode_tree l id action text inner rest, encode_tree l id action text inner (append rest g), encode_append l rest g)
    (sym (append_assoc (unit_bytes l id action text (encode l inner)) (encode l rest) (encode l g)))

pub conforms_append : (f g : Forest) → Conforms f → Conforms g → Conforms (append f g)
unfolding append
conforms_append none g p q = q
conforms_append (tree id action text inner rest) g (follows, within, after) q = (follows, within, conforms_append rest g after q)

pub tells_append : (l : Layout) (f g : Forest) (xs ys : List Request) → Tells l f xs → Tells l g ys → Tells l (append f g) (xs ++ ys)
unfolding append
tells_append l none g xs ys p q = rw p q
tells_append l (tree id action text inner rest) g xs ys p q =
    ⊎_elim (λ w.
    inl (w.0, w.1 ++ ys, rw (w.2, append_assoc), w.3, tells_append l rest g w.1 ys w.4 q))
    (λ w. inr (w.0, w.1 ++ ys, rw w.2, w.3, w.4, tells_append l rest g w.1 ys w.5 q)) p
