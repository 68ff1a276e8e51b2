-- The claims of this crate, proved.
use Rattle.std.proofs.Common.{ℕ, ◌<◌, ◌^◌, ◌≡◌, refl, sym, ap, ◌∙◌, true, List, [], ◌∷◌, arith, length}
use Rattle.cdf_unit_prefix.specs.Layout.{Layout, layout_of}
use Rattle.cdf_unit_table.specs.States.{root_kind}
use Rattle.cdf_unit_list.specs.Units.{ended, Listing, listing}
use Rattle.cdf_unit_list.specs.Check.{Verdict, check_of}
use Rattle.cdf_unit_list.specs.Ranks.{stands_in}
use Rattle.cdf_unit_list.specs.Samples.{k2}
use Rattle.cdf_unit_prefix.specs.declared.Edition.{Edition}
use Rattle.cdf_unit_prefix.specs.declared.Edition.TheVariants.{First, Second}
use Rattle.cdf_grammar.specs.Trees.{Forest, ids, units}
use Rattle.cdf_grammar.specs.Encoding.{Bytes, Stream, encode, list, says}
use Rattle.cdf_grammar.specs.Ranking.{stands}
use Rattle.cdf_grammar.specs.Example.{person}
use Rattle.cdf_grammar.specs.Claims.{Accepted, items_of, InEdition, Claims}
use Rattle.cdf_grammar.proofs.Fits.{Fits}
use Rattle.cdf_grammar.proofs.Agrees.{fits, conforms, root_agrees}
use Rattle.cdf_grammar.proofs.Forward.{length_list}
use Rattle.cdf_grammar.proofs.Ranking.{tree_stands}
use Rattle.cdf_grammar.proofs.Within.{lists, built, accepted_ends}
use Rattle.cdf_grammar.proofs.Children.{children}
use Rattle.cdf_grammar.proofs.Heights.{depth_most}
use Rattle.cdf_grammar.proofs.Person.{person_grammatical}
use Rattle.cdf_grammar.proofs.OneKind.{one_kind}
use Rattle.cdf_grammar.proofs.Unique.{unique}
use Rattle.cdf_grammar.proofs.Items.{said_once, items}

module _ (l : Layout) (room : l.limit < 256 ^ l.length_bytes) where
  -- A stream of the published grammar, in the words of the rules of one unit.
  record TreeOf (s : List ℕ) (t : Forest) : Type 0 where
    id : ℕ
    single : ids t ≡ id ∷ []
    kind : root_kind id ≡ true
    fit : Fits l t
    small : length s < 256 ^ l.length_bytes

  tree_of : (s : List ℕ) (t : Forest) → Stream l s t → TreeOf s t
  tree_of s t p =
      let r = (root_agrees t).0 p.tree.root in
      record { id = r.0; single = r.1; kind = r.2; fit = fits l t p.tree.conforms; small = omega (arith, p.within) }

  whole : (s : List ℕ) (t : Forest) → Stream l s t → listing l s ≡ record { units = list l 0 t; end = ended }
  whole s t p =
      let w = tree_of s t p in
      lists l room s t w.id w.single w.kind w.fit p.bytes p.within

  counted : (s : List ℕ) (t : Forest) → Stream l s t → check_of l s ≡ record { number = 0; value = units t }
  unfolding check_of
  counted s t p = rw (whole s t p, length_list l 0 t)

  stand : (s : List ℕ) (t : Forest) → Stream l s t → stands_in l s ≡ stands 1 0 t
  unfolding stands_in
  stand s t p = let w = tree_of s t p in rw (whole s t p) (tree_stands l t w.id w.single w.fit)

  stream_of : (s : List ℕ) → Bytes s → Accepted l s → (t : Forest) × Stream l s t
  unfolding check_of
  stream_of s b e =
      let w = built l s b (accepted_ends l true 0 s e) in (
        w.0,
        record {
          tree = record { root = (root_agrees w.0).1 (w.1, w.2, w.3); conforms = conforms l w.0 w.4 };
          within = w.6;
          bytes = w.5;
        },
      )

  once : (s : List ℕ) (t u : Forest) → Stream l s t → Stream l s u → t ≡ u
  once s t u p q =
      let v = tree_of s t p in
      let w = tree_of s u q in
      unique l t u v.fit w.fit (rw p.bytes v.small) (p.bytes ∙ sym q.bytes)

  said : (s : List ℕ) (t : Forest) → Stream l s t → items_of l s ≡ says t
  unfolding items_of
  said s t p = rw (whole s t p) (items l s t (tree_of s t p).fit p.bytes)

  same_bytes : (s r : List ℕ) (t u : Forest) → Stream l s t → Stream l r u → items_of l s ≡ items_of l r → s ≡ r
  same_bytes s r t u p q e =
      let v = tree_of s t p in
      let w = tree_of r u q in
      let same = said_once l t u v.fit w.fit v.single w.single (sym (said s t p) ∙ e ∙ said r u q) in
      sym p.bytes ∙ ap (encode l) same ∙ q.bytes

-- A length field can say the longest stream.
pub roomy : (e : Edition) → (layout_of e).limit < 256 ^ (layout_of e).length_bytes
roomy First = omega arith
roomy Second = omega arith

of : (e : Edition) → InEdition e
of e =
    let l = layout_of e in
    let room = roomy e in
    record {
      exactly = λ s b. (stream_of l room s b, λ w. ap (λ (a : Verdict). a.number) (counted l room s w.0 w.1));
      counted = counted l room;
      unique = once l room;
      listed = λ s t p. ap (λ (x : Listing). x.units) (whole l room s t p);
      ranked = stand l room;
      shallow = λ s t p. let w = tree_of l room s t p in depth_most l t w.id w.single w.fit;
      one_kind = λ s t p. one_kind t p.tree.conforms;
      same = λ s r b c x y e.
          let t = stream_of l room s b x in
          let u = stream_of l room r c y in
          same_bytes l room s r t.0 u.0 t.1 u.1 e;
      children = children l room;
    }

example : Stream (layout_of First) k2 person
unfolding encode
example = record {
  tree = person_grammatical;
  within = omega arith;
  bytes = refl;
}

pub proved : Claims
proved = record { streams = of; example = example }

-- The unit list of a stream, in each edition, and that it ends.
pub stream_listing : (e : Edition) (s : List ℕ) (t : Forest) → Stream (layout_of e) s t →
    listing (layout_of e) s ≡ record { units = list (layout_of e) 0 t; end = ended }
stream_listing e = whole (layout_of e) (roomy e)
