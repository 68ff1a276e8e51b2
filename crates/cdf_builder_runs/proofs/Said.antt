-- What the requests for trees say is what the trees' units say; so one list of requests tells of one tree.
use Rattle.std.proofs.Common.{ℕ, ◌≡◌, refl, sym, ap, ◌∙◌, List, [], ◌∷◌, ◌++◌, map, append_assoc, append-nil, ⊎_elim}
use Rattle.cdf_unit_prefix.specs.Layout.{Layout, layout_of}
use Rattle.cdf_unit_prefix.specs.declared.Edition.{Edition}
use Rattle.cdf_grammar.specs.Trees.{Forest, none, tree}
use Rattle.cdf_grammar.specs.Published.{InGrammar}
use Rattle.cdf_grammar.specs.Encoding.{Stream, Item, item_of, says}
use Rattle.cdf_grammar.specs.Claims.{items_of}
use Rattle.cdf_grammar.proofs.Agrees.{fits, root_agrees}
use Rattle.cdf_grammar.proofs.Items.{said_once, items}
use Rattle.cdf_grammar.proofs.Proved.{proved}
use Rattle.cdf_builder_spec.specs.Requests.{Request, unit, group}
use Rattle.cdf_builder_runs.specs.Runs.{items_by, requested}
use Rattle.cdf_builder_runs.specs.Telling.{Tells}

-- The units of a stream say what those of its tree do.
pub stream_says : (e : Edition) (s : List ℕ) (t : Forest) → Stream (layout_of e) s t → items_of (layout_of e) s ≡ says t
unfolding items_of
stream_says e s t p =
    let l = layout_of e in
    ap (map (item_of l s)) ((proved.streams e).listed s t p) ∙ items l s t (fits l t p.tree.conforms) p.bytes

pub requested_unit : (l : Layout) (u : Item) (rs : List Request) → requested l (unit u ∷ rs) ≡ u ∷ requested l rs
unfolding requested items_by
requested_unit l u rs = refl

pub requested_group : (l : Layout) (g : List ℕ) (rs : List Request) → requested l (group g ∷ rs) ≡ items_of l g ++ requested l rs
unfolding requested items_by
requested_group l g rs = refl

pub requested_units : (l : Layout) (us : List Item) → requested l (map unit us) ≡ us
unfolding requested
requested_units l [] = refl
requested_units l (u ∷ us) = ap (λ (xs : List Item). u ∷ xs) (requested_units l us)

pub requested_append : (l : Layout) (xs ys : List Request) → requested l (xs ++ ys) ≡ requested l xs ++ requested l ys
unfolding requested
requested_append l [] ys = refl
requested_append l (r ∷ xs) ys = rw (requested_append l xs ys) (sym (append_assoc (items_by l r) (requested l xs) (requested l ys)))

says_tree : (id action : ℕ) (text : List ℕ) (inner rest : Forest) →
    says (tree id action text inner rest) ≡ record { id = id; action = action; text = text } ∷ (says inner ++ says rest)
unfolding says
says_tree id action text inner rest = refl

says_none : says none ≡ []
unfolding says
says_none = refl

pub requested_none : (l : Layout) → requested l [] ≡ []
unfolding requested
requested_none l = refl

pub requested_says : (e : Edition) (f : Forest) (rs : List Request) → Tells (layout_of e) f rs → says f ≡ requested (layout_of e) rs
requested_says e none rs p = rw (p, says_none, requested_none)
requested_says e (tree id action text inner rest) rs p =
    ⊎_elim (λ w.
    rw (
      w.2,
      requested_unit,
      requested_append,
      ← requested_says e inner w.0 w.3,
      ← requested_says e rest w.1 w.4,
      says_tree id action text inner rest,
    ))
    (λ w.
    rw (
      w.2,
      requested_group,
      stream_says e w.0 (tree id action text inner none) w.4,
      ← requested_says e rest w.1 w.5,
      says_tree id action text inner none,
      says_tree id action text inner rest,
      says_none,
      append-nil (says inner),
    ))
    p

-- Two trees of the grammar that the same requests tell of are one.
pub told_once : (e : Edition) (t u : Forest) (rs : List Request) → InGrammar t → InGrammar u → Tells (layout_of e) t rs → Tells (layout_of e) u rs →
    t ≡ u
told_once e t u rs p q a b =
    let l = layout_of e in
    let i = (root_agrees t).0 p.root in
    let j = (root_agrees u).0 q.root in
    said_once l t u (fits l t p.conforms) (fits l u q.conforms) i.1 j.1 (requested_says e t rs a ∙ sym (requested_says e u rs b))
