-- What a file that was accepted gives the layers above: the table serves, the parameters are in their ranges, and what its ceilings are.
-- Assumes nothing.
use mathlib.Core.Path.{◌≡◌, refl, sym, ◌∙◌, ap, subst, subst₂}
use mathlib.Core.Logic.{◌↔◌}
use mathlib.Core.List.{List}
use Prim.Native.Nat.{ℕ, zero, suc, ◌≤◌, ◌<◌}
use native.Mathlib.Nat.{le_trans, mul-le-mul_right}
use native.Mathlib.Omega.{arith}
use lib.IntN.{pos, nat_abs}
use lib.ListN.{length, get_or, take, drop}
use lib.Seq.{get_or-take, length-take-le, take_all}
use Rattle.std.proofs.Common.{Result, Ok}
use Rattle.std.proofs.Math.Seq.{take-append_seam}
use Rattle.integers.proofs.Laws.Bounds.{sum_bound}
use Rattle.integers.specs.Sum.{sum}
use Rattle.training_file.specs.declared.parameters.Parameters.{Parameters}
use Rattle.training_file.specs.declared.item.Item.{Item}
use Rattle.training_file.specs.declared.item.Label.{Label}
use Rattle.training_file.specs.declared.refusal.Refusal.{Refusal}
use Rattle.training_file.specs.Parameters.{Ranges, ceiling_most, records_most}
use Rattle.training_file.specs.Item.{item_in}
use Rattle.reading.specs.Reading.{Reading, refused, accepted, reading}
use Rattle.reading.proofs.Laws.Reading.{accepted_is}
use Rattle.reading.specs.Calls.{items_in, order_in, file_answer, table_after}
use Rattle.reading.proofs.Laws.Calls.{table_serves}
use Rattle.reading.proofs.Laws.Reading.Accepted.{label_at, accepted_ranges, items_counted, items_most, item_features_most}
use Rattle.dual_problem.specs.Kernel.{FeaturesInRange}
use Rattle.dual_problem.specs.Problem.{EqualCeilings, LabelsPresent, ceiling_of, problem}
use Rattle.dual_problem.proofs.Laws.Problem.Ceilings.{ceiling_range}
use Rattle.dual_problem.specs.Size.{ceilings_most}
use Rattle.dual_problem.specs.declared.problem.FileProblem.{FileProblem}
use Rattle.dual_problem.specs.FileProblem.{Listed}
use Rattle.dual_problem.specs.Given.{ReadAs}

-- each label has an item, and no ceiling is 0
pub labels_present : (file : List ℕ) (p : Parameters) (order : List ℕ) (items : List Item) → reading file ≡ accepted p order items → LabelsPresent (problem p items)
labels_present file p order items e label =
    let a = accepted_is file p order items e in
    let k = label_at file p order items a label in
    (k.0, k.1, k.2, (ceiling_range p (accepted_ranges file p order items a) (item_in items k.0).label).0)

-- each item's features are in their range
pub features_in_range : (file : List ℕ) (p : Parameters) (order : List ℕ) (items : List Item) → reading file ≡ accepted p order items → FeaturesInRange items
features_in_range file p order items e i l q =
    let a = accepted_is file p order items e in
    item_features_most file p order items a i (omega (arith, items_counted file p order items a)) q

-- all items have the ceiling c exactly where both labels' ceilings are c
pub equal_ceilings_exactly : (file : List ℕ) (p : Parameters) (order : List ℕ) (items : List Item) → reading file ≡ accepted p order items
    → (c : ℕ) → EqualCeilings (problem p items) c ↔ ((label : Label) → ceiling_of p label ≡ c)
equal_ceilings_exactly file p order items e c = (
  (λ equal label.
      let k = label_at file p order items (accepted_is file p order items e) label in
      ap (ceiling_of p) (sym k.2) ∙ equal k.0 k.1),
  (λ equal i l. equal (item_in items i).label),
)

-- how large the sum of all items' ceilings can be
pub ceilings_size : (file : List ℕ) (p : Parameters) (order : List ℕ) (items : List Item) → reading file ≡ accepted p order items
    → nat_abs (sum (length items) (λ i. pos ((problem p items).ceiling i))) ≤ ceilings_most
ceilings_size file p order items e =
    let a = accepted_is file p order items e in
    le_trans (sum_bound (length items) (λ i. pos ((problem p items).ceiling i)) (λ i l. (ceiling_range p (accepted_ranges file p order items a) (item_in items i).label).1))
    (mul-le-mul_right ceiling_most (items_most file p order items a))

-- ---- what reading a file comes to

-- an accepted file's own order serves for each of its items
pub accepted_listed : (file : List ℕ) (p : Parameters) (order : List ℕ) (items : List Item) → reading file ≡ accepted p order items → Listed file order (length order)
accepted_listed file p order items e =
    let a = accepted_is file p order items e in
    let counted = items_counted file p order items a in
    let order_is : order_in (reading file) ≡ order = ap order_in e in
    let items_are : length (items_in (reading file)) ≡ length items = ap (λ x. length (items_in x)) e in
    record {
      few = omega (arith, items_most file p order items a);
      counted = omega arith;
      tabled = λ i l. record { counted = subst (λ x. i < length x) (sym order_is) l; held = l; same = ap (λ x. get_or x i 0) (sym order_is) };
      in_range = subst (λ x. FeaturesInRange (items_in x)) (sym e) (features_in_range file p order items e);
    }

-- a table of a place for each record that can be stored serves for every item, and there is none in a file that is refused
pub reading_listed : (file table : List ℕ) → length table ≡ records_most → Listed file (table_after (reading file) table) (length (items_in (reading file)))
reading_listed file table long = by (reading file) refl
  where
    by : (r : Reading) → reading file ≡ r → Listed file (table_after (reading file) table) (length (items_in (reading file)))
    by (refused why) e =
        let none : length (items_in (reading file)) ≡ 0 = ap (λ x. length (items_in x)) e in
        record { few = omega arith; counted = refl; tabled = λ i l. absurd (omega arith); in_range = λ i l. absurd (omega arith) }
    by (accepted p order items) e =
        let listed = accepted_listed file p order items e in
        let order_is : length (order_in (reading file)) ≡ length order = ap (λ x. length (order_in x)) e in
        record {
          few = omega (arith, listed.few, listed.counted);
          counted = refl;
          tabled = λ i l. table_serves file table i (omega (arith, listed.few)) (omega (arith, listed.counted));
          in_range = listed.in_range;
        }

-- an answer that accepts has the number of the items, and parameters in their ranges
pub answer_accepted : (file : List ℕ) {answer : Result (Parameters × ℕ) Refusal} {p : Parameters} {n : ℕ} → answer ≡ file_answer (reading file) → answer ≡ Ok (p, n)
    → (length (items_in (reading file)) ≡ n) × Ranges p
answer_accepted file {answer} {p} {n} = by (reading file) refl
  where
    by : (r : Reading) → reading file ≡ r → answer ≡ file_answer r → answer ≡ Ok (p, n) → (length (items_in r) ≡ n) × Ranges p
    by (refused why) f told e = cc
    by (accepted p' order items) f told e =
        let a = accepted_is file p' order items f in
        let both : ◌≡◌ {A = Parameters × ℕ} (p', length order) (p, n) = cc in
        let parameters : p' ≡ p = ap (λ (x : Parameters × ℕ). x.0) both in
        let count : length order ≡ n = ap (λ (x : Parameters × ℕ). x.1) both in
        (items_counted file p' order items a ∙ count, subst Ranges parameters (accepted_ranges file p' order items a))

-- a table that serves for n items has as many places
listed_long : (file order : List ℕ) (n : ℕ) → Listed file order n → n ≤ length order
listed_long file order zero listed = omega arith
listed_long file order (suc m) listed = (listed.tabled m (omega arith)).held

-- cut to these places it is what a `FileProblem` asks of its order, which so asks no more of a table than `Listed` does
pub listed_cut : (file order : List ℕ) (n : ℕ) → Listed file order n → Listed file (take n order) (length (take n order))
listed_cut file order n listed =
    let cut : length (take n order) ≡ n = length-take-le n order (listed_long file order n listed) in
    record {
      few = omega (arith, listed.few);
      counted = cut ∙ listed.counted;
      tabled = λ i l.
          let place : i < n = omega arith in
          let of_table = listed.tabled i place in
          record { counted = of_table.counted; held = l; same = get_or-take n order i 0 place ∙ of_table.same };
      in_range = listed.in_range;
    }

-- where it is accepted, its order is in the first places of the table, which has a place for each record that can be stored
module _ (file table : List ℕ) {after : List ℕ} {answer : Result (Parameters × ℕ) Refusal} {p : Parameters} {n : ℕ}
    (told : answer ≡ file_answer (reading file)) (left : after ≡ table_after (reading file) table) (long : length table ≡ records_most) (is : answer ≡ Ok (p, n)) where
  -- so what `order` answers and leaves is all that a call on the items asks
  pub order_listed : Listed file after n × Ranges p
  order_listed =
      let are = answer_accepted file told is in
      (subst₂ (Listed file) (sym left) are.0 (reading_listed file table long), are.1)

  pub read_few : n ≤ records_most
  read_few = order_listed.0.few

  pub read_ranges : Ranges p
  read_ranges = order_listed.1

  pub read_listed : Listed file (take n after) (length (take n after))
  read_listed = listed_cut file after n order_listed.0

  table_accepted : (r : Reading) → reading file ≡ r → file_answer r ≡ Ok (p, n) → r ≡ accepted p (take n (table_after r table)) (items_in r)
  table_accepted (refused why) f e = cc
  table_accepted (accepted p' order items) f e =
      let both : ◌≡◌ {A = Parameters × ℕ} (p', length order) (p, n) = cc in
      let parameters : p' ≡ p = ap (λ (x : Parameters × ℕ). x.0) both in
      let count : length order ≡ n = ap (λ (x : Parameters × ℕ). x.1) both in
      let fits : length order ≤ length table = omega (arith, read_few) in
      let all : n ≡ length order = sym count in
      let order_is : take n (table_after (accepted p' order items) table) ≡ order =
      rw (all, take_all (length table) order fits) (take-append_seam order (drop (length order) table)) in
      λ i. accepted (parameters i) (sym order_is i) items

  pub read_accepted : reading file ≡ accepted p (take n after) (items_in (reading file))
  read_accepted = subst (λ t. reading file ≡ accepted p (take n t) (items_in (reading file))) (sym left) (table_accepted (reading file) refl (sym told ∙ is))

-- the problem that reading gives has parameters in their ranges
pub read_as_ranges : (file : List ℕ) (answer : Result FileProblem Refusal) (f : FileProblem) → ReadAs file answer → answer ≡ Ok f → Ranges f.parameters
read_as_ranges file answer f read is =
    let reads = subst (ReadAs file) is read in
    accepted_ranges file f.parameters f.order.now (items_in (reading file)) (accepted_is file f.parameters f.order.now (items_in (reading file)) reads.1)
