-- The tally and the entries after a template and after an entity key are those of the pass.
use Rattle.std.proofs.Common.{ℕ, suc, ◌+◌, ◌≤◌, ◌<◌, ◌≡◌, refl, sym, ap, ◌∙◌, cond, List, [], ◌∷◌, ◌++◌, arith, add-one, le-ltb, length, take, set}
use Rattle.std.proofs.Common.{length-set, length-append, take-suc-set}
use Rattle.std.proofs.lemmas.List.Edits.{sets}
use mathlib.Core.Option as maybe
use Rattle.std.proofs.lemmas.List.{map-append}
use Rattle.std.specs.Prelude.{Option, Some, None}
use Rattle.cdf_unit_table.proofs.Bools.{clash}
use Rattle.cdf_unit_prefix.specs.Layout.{Layout}
use Rattle.cdf_unit_list.specs.declared.Unit.{Unit}
use Rattle.cdf_unit_list.specs.declared.Ranked.{Ranked}
use Rattle.cdf_resolve_spec.specs.Resolve.{is_there}
use Rattle.cdf_resolve_spec.specs.Pass.{Pass, doubled_at, lacking_at, held_for, add_of, tell_of}
use Rattle.cdf_resolve_spec.specs.declared.Tally.{Tally}
use Rattle.cdf_resolve_spec.specs.declared.Worst.{Worst}
use Rattle.cdf_resolve_spec.specs.declared.Worst.TheVariants.{Crowded}
use Rattle.cdf_resolve_spec.proofs.Passing.{add_held, longer}
use Rattle.cdf_resolve.specs.Holding.{Within, Lies, rank_in, Ready, template_of, Keeps, Written}
use Rattle.cdf_resolve.specs.declared.Template.{Template}
use Rattle.cdf_resolve.proofs.Finding.{lent, rank_held}

-- One template more.
lies_more : (l : Layout) (n : ℕ) (ts : List Template) (t : Template) → Lies l n ts → Within l n t.start t.own → Lies l n (ts ++ (t ∷ []))
lies_more l n [] t w x = (x, tt)
lies_more l n (u ∷ ts) t w x = (w.0, lies_more l n ts t w.1 x)

-- Told where the numbers told before end.
told_more : (ns list : List ℕ) (i : ℕ) (r : ℕ) → sets list i (ns ++ (r ∷ [])) ≡ set (sets list i ns) (i + length ns) r
told_more [] list i r = let e : i + 0 ≡ i = omega arith in rw e
told_more (n ∷ ns) list i r = let e : i + suc (length ns) ≡ suc i + length ns = omega arith in rw e (told_more ns (set list i n) (suc i) r)

module _ (l : Layout) (s : List ℕ) (p : Pass) (t : Tally) (held : List Template) (k : Keeps l (length s) p t held) where
  pub ready : t.count ≤ length s → Ready l (length s) t held
  ready h = record {
    few = omega (arith, k.few, k.templates);
    count = h;
    lies = k.lies;
    full = k.full;
  }

  -- What is found among those that are held.
  module _ (u : Unit) (r : Option ℕ) (f : r ≡ rank_in l s u (take t.templates held)) where
    found : r ≡ lent (held_for l s p.seen u)
    found = f ∙ rw k.seen (rank_held l s u p.seen)

    kept_none : r ≡ None → held_for l s p.seen u ≡ maybe.none
    kept_none e = go (held_for l s p.seen u) (sym found ∙ e)
      where
        go : (m : maybe.Option ℕ) → lent m ≡ None → m ≡ maybe.none
        go maybe.none z = refl
        go (maybe.some rank) z = clash cc

    kept_some : (rank : ℕ) → r ≡ Some rank → held_for l s p.seen u ≡ maybe.some rank
    kept_some rank e = go (held_for l s p.seen u) (sym found ∙ e)
      where
        go : (m : maybe.Option ℕ) → lent m ≡ Some rank → m ≡ maybe.some rank
        go maybe.none z = clash cc
        go (maybe.some x) z = cc

  -- A template, where there is no room,
  pub hold_full : (o : Ranked) → t.templates ≡ 256 →
      Keeps l (length s) (add_of l s p o) (record { templates = t.templates; count = t.count; worst = Crowded }) held
  unfolding add_of
  hold_full o e =
      rw (le-ltb (length p.seen) 256 (omega (arith, e, k.templates))) (record {
        few = k.few;
        templates = k.templates;
        count = k.count;
        worst = refl;
        lies = k.lies;
        full = k.full;
        seen = k.seen;
      })

  -- and where there is.
  module _ (o : Ranked) (room : t.templates ≡ 256 → ⊥) (w : Within l (length s) o.unit.start o.unit.own) where
    few : length p.seen < 256
    few = omega (arith, k.few, k.templates, room)

    hold_more : (worst : Worst) →
        worst ≡ cond (is_there (held_for l s p.seen o.unit)) (doubled_at p.worst o.unit.start) p.worst →
        Keeps l (length s) (add_of l s p o) (record { templates = t.templates + 1; count = t.count; worst = worst })
        (set held t.templates (template_of o))
    hold_more worst e =
        let size = longer l s p.seen o in
        let below : t.templates < length held = omega (arith, few, k.templates, k.full) in
        let taken = take-suc-set held t.templates (template_of o) below in
        rw (add_held l s p o few) (record {
          few = omega (arith, size, few);
          templates = omega (arith, size, k.templates);
          count = k.count;
          worst = e;
          lies = rw (add-one, taken) (lies_more l (length s) (take t.templates held) (template_of o) k.lies w);
          full = length-set held t.templates (template_of o) ∙ k.full;
          seen = rw (add-one, taken, k.seen) (sym (map-append template_of p.seen (o ∷ [])));
        })

    -- It is the first with its name and number, or doubled.
    module _ (r : Option ℕ) (f : r ≡ rank_in l s o.unit (take t.templates held)) where
      pub hold_new : r ≡ None →
          Keeps l (length s) (add_of l s p o) (record { templates = t.templates + 1; count = t.count; worst = t.worst })
          (set held t.templates (template_of o))
      unfolding is_there
      hold_new e = hold_more t.worst (rw (kept_none o.unit r f e) k.worst)

      pub hold_doubled : (rank : ℕ) → r ≡ Some rank →
          Keeps l (length s) (add_of l s p o)
          (record { templates = t.templates + 1; count = t.count; worst = doubled_at t.worst o.unit.start })
          (set held t.templates (template_of o))
      unfolding is_there
      hold_doubled rank e = hold_more _ (rw (kept_some o.unit r f rank e, k.worst))

  -- An entity key without a template, and with one.
  module _ (o : Ranked) (before list : List ℕ) (written : Written before p list)
      (m : Option ℕ) (f : m ≡ rank_in l s o.unit (take t.templates held)) where
    abbrev Next : Tally → List ℕ → Type 0
    Next r after =
        Keeps l (length s) (tell_of p o (held_for l s p.seen o.unit)) r held
        × Written before (tell_of p o (held_for l s p.seen o.unit)) after

    pub tell_none : m ≡ None →
        Next (record { templates = t.templates; count = t.count; worst = lacking_at t.worst o.unit.start }) list
    unfolding tell_of
    tell_none e =
        rw (kept_none o.unit m f e) (
          record {
            few = k.few;
            templates = k.templates;
            count = k.count;
            worst = ap (λ x. lacking_at x o.unit.start) k.worst;
            lies = k.lies;
            full = k.full;
            seen = k.seen;
          },
          written,
        )

    pub tell_rank : (rank : ℕ) → m ≡ Some rank →
        Next (record { templates = t.templates; count = t.count + 1; worst = t.worst }) (set list t.count rank)
    unfolding tell_of
    tell_rank rank e =
        let size = length-append p.ranks (rank ∷ []) in
        let at : t.count ≡ 0 + length p.ranks = omega (arith, k.count) in
        rw (kept_some o.unit m f rank e) (
          record {
            few = k.few;
            templates = k.templates;
            count = omega (arith, size, k.count);
            worst = k.worst;
            lies = k.lies;
            full = k.full;
            seen = k.seen;
          },
          rw (written, at) (sym (told_more p.ranks before 0 rank)),
        )
