-- The numbers of a rescue in their order, by what the code has learnt.
use Rattle.std.proofs.Common.{ℕ, ◌+◌, ◌≤◌, ◌<◌, ◌≡◌, refl, sym, List, [], arith, lt-ltb, le-ltb, eq-eqb, ne_eqb, length}
use Rattle.std.specs.Prelude.{Ok, Err}
use Rattle.cdf_refusal.specs.Numbers.{number_of}
use Rattle.cdf_refusal.specs.declared.Refusal.{Refusal}
use Rattle.cdf_unit_prefix.specs.Layout.{Layout, prefix_of}
use Rattle.cdf_unit_table.specs.Ids.{er_group}
use Rattle.cdf_grammar.proofs.Built.{length_unit}
use Rattle.cdf_builder_write.specs.Patch.{patch}
use Rattle.cdf_builder_write.proofs.Patching.{patch_some}
use Rattle.cdf_rescue_spec.specs.Salvage.{pieces, runs_of, most_runs, refusal, group_of, rescued, rescue_of}
use Rattle.cdf_rescue.specs.Numbers.{entries, report_of, told_of}
use Rattle.cdf_rescue.specs.Parts.{kept_of}
use Rattle.cdf_rescue.specs.declared.Report.{Report}

module _ (l : Layout) (s : List ℕ) (room : ℕ) where
  abbrev runs : ℕ
  runs = length (runs_of (pieces l s))

  abbrev size : ℕ
  size = prefix_of l + length (kept_of l s)

  pub few_bytes : length s < prefix_of l → rescue_of l room s ≡ refusal 3
  unfolding rescue_of rescued
  few_bytes h = rw (lt-ltb (length s) (prefix_of l) h)

  module _ (enough : prefix_of l ≤ length s) where
    pub nothing_kept : length (kept_of l s) ≡ 0 → rescue_of l room s ≡ refusal 16
    unfolding rescue_of rescued
    nothing_kept e = rw (le-ltb (length s) (prefix_of l) enough, eq-eqb (length (kept_of l s)) 0 e)

    module _ (some : length (kept_of l s) ≡ 0 → ⊥) where
      pub many_runs : most_runs < runs → rescue_of l room s ≡ refusal 17
      unfolding rescue_of rescued
      many_runs h = rw (le-ltb (length s) (prefix_of l) enough, ne_eqb (length (kept_of l s)) 0 some, lt-ltb most_runs runs h)

      module _ (few : runs ≤ most_runs) where
        pub long_group : l.limit < size → rescue_of l room s ≡ refusal 13
        unfolding rescue_of rescued
        long_group h =
            rw (le-ltb (length s) (prefix_of l) enough, ne_eqb (length (kept_of l s)) 0 some, le-ltb most_runs runs few, lt-ltb l.limit size h)

        module _ (short : size ≤ l.limit) where
          pub no_room : room < size → rescue_of l room s ≡ refusal 12
          unfolding rescue_of rescued
          no_room h =
              rw (
                le-ltb (length s) (prefix_of l) enough,
                ne_eqb (length (kept_of l s)) 0 some,
                le-ltb most_runs runs few,
                le-ltb l.limit size short,
                lt-ltb room size h,
              )

          pub done : size ≤ room → rescue_of l room s ≡ record { number = 0; runs = runs_of (pieces l s); group = group_of l (kept_of l s) }
          unfolding rescue_of rescued
          done h =
              rw (
                le-ltb (length s) (prefix_of l) enough,
                ne_eqb (length (kept_of l s)) 0 some,
                le-ltb most_runs runs few,
                le-ltb l.limit size short,
                le-ltb room size h,
              )

-- A refusal writes nothing.
pub refuses : (l : Layout) (s out : List ℕ) (e : Refusal) → rescue_of l (length out) s ≡ refusal (number_of e) →
    (told_of (Err e) ≡ report_of (rescue_of l (length out) s)) × (out ≡ patch 0 (rescue_of l (length out) s).group out)
refuses l s out e is = rw is (refl, sym (patch_some 0 [] out (omega arith)))

-- The report of a rescue, from what the scan found.
pub reports : (l : Layout) (s : List ℕ) (room : ℕ) (r : Report) →
    rescue_of l room s ≡ record { number = 0; runs = runs_of (pieces l s); group = group_of l (kept_of l s) } →
    r.size ≡ prefix_of l + length (kept_of l s) → r.count ≡ length (runs_of (pieces l s)) → r.runs ≡ entries (runs_of (pieces l s)) →
    told_of (Ok r) ≡ report_of (rescue_of l room s)
unfolding report_of group_of
reports l s room r e size count runs-are =
    let long : length (group_of l (kept_of l s)) ≡ prefix_of l + length (kept_of l s) = omega (arith, length_unit l er_group 0 [] (kept_of l s)) in
    rw (e, long, size, count, runs-are)
