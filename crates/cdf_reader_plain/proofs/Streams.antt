-- What a stream's bytes give the readers: a run of steps over the unit list, and each group in it a stream of its own.
use Rattle.std.proofs.Common.{ℕ, ◌-◌, ◌≤◌, ◌≡◌, refl, sym, ap, ◌∙◌, true, List, [], ◌∷◌, append-nil, arith, length, take, drop, length-take}
use Rattle.std.proofs.Common.{length-drop}
use mathlib.Core.List.{cons≢nil}
use Rattle.cdf_unit_prefix.specs.Layout.{Layout, layout_of}
use Rattle.cdf_unit_prefix.specs.declared.Edition.{Edition}
use Rattle.cdf_unit_list.specs.Units.{ended, Listing, listing}
use Rattle.cdf_unit_list.specs.Ranks.{standing, ranked, ranked_units}
use Rattle.cdf_unit_list.specs.declared.Unit.{Unit}
use Rattle.cdf_unit_list.specs.declared.Ranked.{Ranked}
use Rattle.cdf_grammar.specs.Content.{Spells}
use Rattle.cdf_grammar.specs.Trees.{Forest, none, tree, ids}
use Rattle.cdf_grammar.specs.Published.{cdf_data_stream}
use Rattle.cdf_grammar.specs.Encoding.{Stream, list}
use Rattle.cdf_grammar.proofs.Agrees.{root_agrees}
use Rattle.cdf_grammar.proofs.Items.{EachUnit, Rooted, rooted}
use Rattle.cdf_grammar.proofs.Proved.{stream_listing}
use Rattle.cdf_reader_spec.specs.Calls.{is_group}
use Rattle.cdf_reader_spec.proofs.Replying.{start}
use Rattle.cdf_reader_runs.proofs.Steps.{Run, listed as run-listed}
use Rattle.cdf_reader_plain.proofs.Groups.{group_root}

-- Of a unit list: it is the bytes' own, a run of steps to the end, and each unit's bytes are a tree's.
pub record Readable (l : Layout) (s : List ℕ) (first : Ranked) (rest : List Ranked) : Type 0 where
  pub listed : ranked_units l s ≡ first ∷ rest
  pub units : List Unit
  pub are : first ∷ rest ≡ ranked [] units
  pub run : Run l s (start l s) units ended
  pub each : EachUnit (Rooted l s) units

-- A tree with a root has a first unit.
first_unit : (l : Layout) (at : ℕ) (t : Forest) → Spells cdf_data_stream (ids t) →
    (first : Unit) × (rest : List Unit) × (list l at t ≡ first ∷ rest)
unfolding list ids
first_unit l at none root = absurd (cons≢nil (sym ((root_agrees none).0 root).1))
first_unit l at (tree id action text inner rest) root = (_, _, refl)

-- So has a stream's list, which is such.
pub readable : (e : Edition) (s : List ℕ) (t : Forest) → Stream (layout_of e) s t →
    (first : Ranked) × (rest : List Ranked) × Readable (layout_of e) s first rest
unfolding ranked_units ranked
readable e s t p =
    let l = layout_of e in
    let is = stream_listing e s t p in
    let has = first_unit l 0 t p.tree.root in
    let listed : (listing l s).units ≡ has.0 ∷ has.1 = ap (λ (x : Listing). x.units) is ∙ has.2 in (
      standing [] has.0,
      ranked (has.0 ∷ []) has.1,
      record {
        listed = rw listed;
        units = has.0 ∷ has.1;
        are = refl;
        run = rw (listed, ap (λ (x : Listing). x.end) is) at (run-listed l s);
        each = rw has.2 at (rooted l s t 0 [] p.tree.conforms (rw append-nil (sym p.bytes)));
      },
    )

-- The bytes of a group are a stream.
pub group_stream : (l : Layout) (s : List ℕ) (u : Unit) → length s ≤ l.limit → Rooted l s u → is_group u.id ≡ true →
    (t : Forest) × Stream l (take (u.end - u.start) (drop u.start s)) t
unfolding ids
group_stream l s u short r group =
    let t = tree u.id u.action r.text r.inner none in (
      t,
      record {
        tree = record { root = (root_agrees t).1 (u.id, refl, group_root u.id group); conforms = r.conforms };
        within = simp (length-take, length-drop) (omega arith);
        bytes = r.bytes;
      },
    )
