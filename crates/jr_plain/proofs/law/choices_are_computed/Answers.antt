use Rattle.std.proofs.Common.{◌≡◌, true}
use Rattle.jr_plain.specs.Search.{has}
use Rattle.jr_plain.proofs.Tests.{itself}
use Rattle.jr_plain.proofs.Overloaded.{applicable_tells, more_specific_tells, result_tells, earlier_tells, choice_list, imported_choice_list}
use Rattle.jr_plain.proofs.law.choices_are_computed.Goals as goal

pub returns : goal.returns
returns c = record {
  applicable = λ p t o receiver arguments m headed. applicable_tells p t headed o receiver arguments m;
  more_specific = λ p t m k headed. more_specific_tells p t headed m k;
  results = λ p t m k headed. result_tells p t headed m k;
  order = λ p t k d e headed. earlier_tells p t headed k d e;
  choice = λ p t k o receiver arguments methods headed. choice_list p t headed k o receiver arguments (λ m. has methods m ≡ true) methods (λ m. itself (has methods m));
  imported = λ p t o arguments methods headed. imported_choice_list p t headed o arguments (λ m. has methods m ≡ true) methods (λ m. itself (has methods m));
}
