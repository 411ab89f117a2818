use Rattle.exact_num.specs.Q.{same_value}
use Rattle.exact_num.specs.Ops.{+ℚ_comm, +ℚ_assoc, +ℚ-zero, +ℚ-neg, *ℚ_comm, *ℚ_assoc, *ℚ-one, *ℚ-inv, *ℚ-+ℚ}
use Rattle.exact_num.specs.Whole.{int_ℚ-+ℤ, int_ℚ-*ℤ}
use Rattle.exact_num.specs.Order.{≤ℚ_total, ≤ℚ_antisymm, ≤ℚ_trans, <ℚ_or_≤ℚ, +ℚ-≤ℚ, +ℚ-<ℚ, *ℚ-≤ℚ, *ℚ-<ℚ}
use Rattle.exact_num.specs.Sums.{sum_ℚ-add, sum_ℚ-scale, sum_ℚ-exchanged, sum_ℚ-replaced}
use Rattle.exact_num.specs.Multiples.{least_den_divides, least_den_least}
use Rattle.exact_num.proofs.law.laws.Goals as goal

pub returns : goal.returns
returns c = record {
  value = same_value;
  sum_either_way = +ℚ_comm;
  sum_in_groups = +ℚ_assoc;
  sum_with_zero = +ℚ-zero;
  sum_with_negative = +ℚ-neg;
  product_either_way = *ℚ_comm;
  product_in_groups = *ℚ_assoc;
  product_with_one = *ℚ-one;
  product_with_inverse = *ℚ-inv;
  distributes = *ℚ-+ℚ;
  whole_sum = int_ℚ-+ℤ;
  whole_product = int_ℚ-*ℤ;
  total = ≤ℚ_total;
  antisymmetric = ≤ℚ_antisymm;
  transitive = ≤ℚ_trans;
  strict_or_not = <ℚ_or_≤ℚ;
  kept_by_sums = +ℚ-≤ℚ;
  strictly_kept_by_sums = +ℚ-<ℚ;
  kept_by_products = *ℚ-≤ℚ;
  strictly_kept_by_products = *ℚ-<ℚ;
  added_sums = sum_ℚ-add;
  scaled_sums = sum_ℚ-scale;
  exchanged_sums = sum_ℚ-exchanged;
  replaced_term = sum_ℚ-replaced;
  common_denominator = least_den_divides;
  least_denominator = least_den_least;
}
