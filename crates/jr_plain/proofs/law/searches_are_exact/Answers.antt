use Rattle.std.proofs.Common.{◌≡◌, true}
use Rattle.jr_plain.proofs.Tests.{itself}
use Rattle.jr_plain.proofs.Searches.{any, all, finds_first, finds_last, such}
use Rattle.jr_plain.proofs.Least.{closed_below, reaches_tells}
use Rattle.jr_plain.proofs.law.searches_are_exact.Goals as goal

pub returns : goal.returns
returns c = record {
  any = λ test n. any test (λ k. test k ≡ true) (λ k. itself (test k)) n;
  all = λ test n. all test (λ k. test k ≡ true) (λ k. itself (test k)) n;
  first = λ test n. finds_first test (λ k. test k ≡ true) (λ k. itself (test k)) n;
  last = λ test n. finds_last test (λ k. test k ≡ true) (λ k. itself (test k)) n;
  such = λ test n. such test n;
  closed = λ n follows k lt h. closed_below n follows k lt h;
  reached = λ n edge from a b. reaches_tells n edge (λ a b. edge a b ≡ true) (λ a b. itself (edge a b)) from a b;
}
