-- The claims of this crate, proved.
use Rattle.std.proofs.Common.{◌≡◌, refl, []}
use Rattle.cdf_unit_prefix.specs.Layout.{layout_of, prefix_of}
use Rattle.cdf_unit_prefix.specs.declared.Edition.{Edition}
use Rattle.cdf_grammar.proofs.Within.{stream_root}
use Rattle.cdf_grammar.proofs.Proved.{proved as grammar, roomy}
use Rattle.cdf_rescue_spec.specs.Salvage.{pieces}
use Rattle.cdf_rescue_spec.specs.Samples.{samples_found, samples_due, runs_found, runs_due}
use Rattle.cdf_rescue_spec.specs.Claims.{InEdition, Claims}
use Rattle.cdf_rescue_spec.proofs.Cutting.{covers, in_order}
use Rattle.cdf_rescue_spec.proofs.Runs.{runs_apart, runs_dropped}
use Rattle.cdf_rescue_spec.proofs.Deciding.{decided, only}
use Rattle.cdf_rescue_spec.proofs.Grouping.{grouped}
use Rattle.cdf_rescue_spec.proofs.Refusing.{refuses}
use Rattle.cdf_rescue_spec.proofs.Unchanged.{unchanged}
use Rattle.cdf_rescue_spec.proofs.Unseen.{unseen}

of : (e : Edition) → InEdition e
of e =
    let l = layout_of e in
    record {
      covers = covers l;
      decided = decided l;
      only = only l;
      apart = λ s. let order = in_order l s in runs_apart (prefix_of l) order.0 (pieces l s) order.1;
      runs = λ s. let order = in_order l s in runs_dropped (prefix_of l) order.0 (pieces l s) order.1;
      refuses = λ room s. refuses l s room;
      group = λ room s b. grouped l room s (decided l s b);
      unchanged = λ room s b a is fits.
          let t = ((grammar.streams e).exactly s b).0 a in
          let (action, text, held, stream) = stream_root l s t.0 t.1 in
          unchanged l room s action text held (rw is at stream) (roomy e) fits;
      again = λ room s b q more fits.
          let g = grouped l room s (decided l s b) q in
          unchanged l more _ 0 [] g.held g.stream (roomy e) fits;
      unseen = λ room s r long e. unseen l s r long e room;
    }

samples : samples_found ≡ samples_due
unfolding samples_found
samples = refl

most : runs_found ≡ runs_due
unfolding runs_found
most = refl

pub proved : Claims
proved = record { rescues = of; samples = samples; most = most }
