-- The units of a group in the finished stream.
use Rattle.std.proofs.Common.{ℕ, ◌+◌, ◌≡◌, refl, sym, ap, ◌∙◌, List, [], ◌∷◌, ◌++◌, map, arith, length, take, length-take}
use Rattle.std.proofs.lemmas.List.{map-append, length-map}
use Rattle.cdf_unit_prefix.specs.Layout.{Layout, layout_of}
use Rattle.cdf_unit_prefix.specs.declared.Edition.{Edition}
use Rattle.cdf_unit_list.specs.Units.{listing}
use Rattle.cdf_unit_list.specs.declared.Unit.{Unit}
use Rattle.cdf_grammar.specs.Trees.{Forest}
use Rattle.cdf_grammar.specs.Encoding.{Stream, Item, item_of}
use Rattle.cdf_grammar.specs.Claims.{items_of}
use Rattle.cdf_grammar.proofs.Proved.{proved}
use Rattle.cdf_builder_spec.specs.Requests.{Request, group}
use Rattle.cdf_builder_spec.specs.Calls.{Finish}
use Rattle.cdf_builder_runs.specs.Runs.{sizes, requested, AllLent}
use Rattle.cdf_builder_runs.specs.Building.{Building, and_then, layout, asked, first, last, finish, AllZero}
use Rattle.cdf_builder_runs.specs.Telling.{Tells}
use Rattle.cdf_builder_groups.specs.Claims.{moved_by}
use Rattle.cdf_builder_runs.proofs.Answers.{done_front}
use Rattle.cdf_builder_runs.proofs.Building.{written, whole_by, accepted, builds}
use Rattle.cdf_builder_runs.proofs.Said.{stream_says, requested_append, requested_group, requested_says}
use Rattle.cdf_builder_groups.proofs.Stand.{moved_list, Stands, stands}

-- Two lists, one after the other, cut where the first ends.
cut : {A : Type 0} (a b c d : List A) → length a ≡ length c → a ++ b ≡ c ++ d → (a ≡ c) × (b ≡ d)
cut [] b [] d long e = (refl, e)
cut [] b (y ∷ c) d long e = absurd (omega arith)
cut (x ∷ a) b [] d long e = absurd (omega arith)
cut (x ∷ a) b (y ∷ c) d long e = let w = cut a b c d (omega arith) cc in (cc, w.1)

-- In a stream that these requests tell of.
module _ (e : Edition) (front : List ℕ) (t : Forest) (whole : Stream (layout_of e) front t) (xs : List Request) (g : List ℕ) (ys : List Request)
    (tells : Tells (layout_of e) t (xs ++ (group g ∷ ys))) where
  abbrev l : Layout
  l = layout_of e

  here : Stands l 0 t xs g
  here = stands e g t 0 (xs ++ (group g ∷ ys)) xs ys tells refl

  abbrev before : List Unit
  before = here.before

  abbrev after : List Unit
  after = here.after

  abbrev moved : List Unit
  moved = map (moved_by (sizes l xs)) (listing l g).units

  listed : (listing l front).units ≡ before ++ (moved ++ after)
  listed =
      let base = sizes l xs in
      let root = here.root in
      let at : 0 + base ≡ base + 0 = omega arith in
      (proved.streams e).listed front t whole
      ∙ here.parts
      ∙ rw (at, moved_list l base 0 root, ← (proved.streams e).listed g root here.stream)

  item : Unit → Item
  item = item_of l front

  said : map item before ++ (map item moved ++ map item after) ≡ requested l xs ++ (items_of l g ++ requested l ys)
  unfolding items_of item
  said =
      sym (map-append item before (moved ++ after) ∙ ap (λ us. map item before ++ us) (map-append item moved after))
      ∙ ap (map item) (sym listed)
      ∙ stream_says e front t whole
      ∙ requested_says e t (xs ++ (group g ∷ ys)) tells
      ∙ requested_append l xs (group g ∷ ys)
      ∙ ap (λ us. requested l xs ++ us) (requested_group l g ys)

  long : length (map item moved) ≡ length (items_of l g)
  unfolding items_of
  long = simp length-map

  said_before : map item before ≡ requested l xs
  said_before = (cut (map item before) _ (requested l xs) _ (simp length-map here.count) said).0

  said_after : map item after ≡ requested l ys
  said_after =
      let rest = (cut (map item before) _ (requested l xs) _ (simp length-map here.count) said).1 in
      (cut (map item moved) (map item after) (items_of l g) (requested l ys) long rest).1

module _ (b : Building) (g : List ℕ) (ys : List Request) where
  -- With the group and what comes after it.
  abbrev all : Building
  all = and_then b (group g ∷ ys)

  abbrev Amid : List ℕ → Type 0
  Amid front =
      (before : List Unit) × (after : List Unit)
      × ((listing (layout b) front).units ≡ before ++ (map (moved_by (last b).place.written) (listing (layout b) g).units ++ after))
      × (map (item_of (layout b) front) before ≡ requested (layout b) (asked b))
      × (map (item_of (layout b) front) after ≡ requested (layout b) ys)

  amid : AllLent all.calls → AllZero all → (finish all).number ≡ 0 → (front : List ℕ) → front ≡ take (finish all).length (last all).buffer →
      Amid front
  unfolding item
  amid lent done zero front is =
      let e = b.edition in
      let (t, grammar, tells) = whole_by all lent done zero in
      let long = ap (λ (f : Finish). f.length) ((builds all lent done).finished.1 (t, grammar, tells)) in
      let limit = ((accepted all lent).0 done).1 in
      let bytes = ((builds all lent done).built t grammar tells).encoded in
      let whole : Stream (layout b) front t =
      record { tree = grammar; within = rw is (simp length-take (omega (arith, limit, long))); bytes = sym (is ∙ bytes) } in (
        before e front t whole (asked b) g ys tells,
        after e front t whole (asked b) g ys tells,
        rw (written b (done_front (layout b) (first b) b.calls (group g ∷ ys) done)) (listed e front t whole (asked b) g ys tells),
        said_before e front t whole (asked b) g ys tells,
        said_after e front t whole (asked b) g ys tells,
      )

  pub moved_in : (c : Building) → c ≡ all → AllLent c.calls → AllZero c → (finish c).number ≡ 0 → (front : List ℕ) →
      front ≡ take (finish c).length (last c).buffer → Amid front
  moved_in c are = rw are amid
