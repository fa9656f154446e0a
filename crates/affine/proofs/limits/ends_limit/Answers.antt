use Rattle.affine.specs.Fits.{end_limit}
use Rattle.affine.proofs.Fitting.{sum_fits, opposite_fits, ends_bounded, ends_fit, lesser_fits, greater_fits}
use Rattle.affine.proofs.limits.ends_limit.Goals as goal

pub returns-clause-enough : goal.returns-clause-enough
returns-clause-enough c = record {
  sum = λ u v a b. sum_fits (ends_bounded end_limit u a) (ends_bounded end_limit v b) tt;
  opposite = λ u a. opposite_fits (ends_bounded end_limit u a) tt;
  ends = λ u a. ends_fit end_limit u a tt;
  lesser = λ u v a b. lesser_fits end_limit u v a b tt tt;
  greater = λ u v a b. greater_fits end_limit u v a b tt tt;
}
