-- The theorems of request (h): the pool of two accepted files is the file of their items that stay, written as in (b); pooled again, it comes
-- out byte for byte. Assumes nothing.
use mathlib.Core.Path.{◌≡◌, refl, sym, ◌∙◌, ap, subst}
use mathlib.Core.Bool.{true}
use mathlib.Core.List.{List, ◌++◌}
use Prim.Native.Nat.{ℕ, ◌≤◌, ◌<◌}
use native.Mathlib.Omega.{arith}
use lib.Dec.{leb}
use lib.ListN.{length}
use borrow.Author.Tests.{eq-eqb, le-leb, leb-true}
use Rattle.integers.proofs.Laws.Truth.{&&_true}
use Rattle.training_file.specs.declared.item.Item.{Item}
use Rattle.training_file.specs.declared.parameters.Parameters.{Parameters}
use Rattle.training_file.specs.declared.refusal.Refusal.{Refusal}
use Rattle.training_file.specs.declared.refusal.Refusal.TheVariants as refusal
use Rattle.training_file.specs.Refusal.{OneOf, pooling_refuses, reading_refuses}
use Rattle.training_file.specs.Layout.{feature_count}
use Rattle.training_file.specs.Parameters.{byte_of_kernel, records_most}
use Rattle.training_file.specs.Item.{both_labels, features_allowed, item_in}
use Rattle.training_file.specs.Record.{every}
use Rattle.training_file.proofs.Laws.Refusal.{one_of_more}
use Rattle.reading.specs.Reading.{accepted, reading}
use Rattle.reading.specs.Reading as reader
use Rattle.reading.proofs.Laws.Calls.{file_either}
use Rattle.reading.proofs.Laws.Reading.Fault.{refused_one_of}
use Rattle.written_file.specs.File.{file_length, file_of}
use Rattle.written_file.specs.Stored.{Writable, numbers_to}
use Rattle.written_file.specs.Output.{Refuses, file_fits, unless, write_into, wrote}
use Rattle.written_file.proofs.Laws.File.{file-length}
use Rattle.written_file.proofs.Laws.Output.{unless_refuses, unless_wrote}
use Rattle.written_file.proofs.Laws.Stored.Written.{reads_back}
use Rattle.written_file.proofs.Laws.Stored.Back.{accepted_writable}
use Rattle.writing.specs.Row.{item_rows}
use Rattle.writing.specs.Writing.{writing}
use Rattle.writing.proofs.Laws.Writing.{rows_tested}
use Rattle.last_items.specs.Last.{is_last, last_only}
use Rattle.pooling.specs.Pooling.{alike, pooling, write_left}
use Rattle.last_items.proofs.Laws.Last.{each_append, pool_newer, pool_older, pool_twice, staying_all}
use Rattle.pooling.proofs.Laws.Call.{alike_used, left_all, pools_left}

-- ---- the call's refusals

left_refuse : (room : ℕ) (q : Parameters) (left : List Item) → Refuses pooling_refuses (write_left room q left)
left_refuse room q left =
    let tested = unless_refuses pooling_refuses in
    tested refusal.Labels (both_labels left) _ refl (λ e. omega arith) (λ e. omega arith)
    (tested refusal.Pool (leb (length left) records_most) _ refl (λ e. omega arith) (λ e. omega arith)
    (tested refusal.Output (file_fits (length left) room) (wrote (file_of q left)) refl (λ e. omega arith) (λ e. omega arith) tt))

file_refuses : (file : List ℕ) (why : Refusal) → reading file ≡ reader.refused why → OneOf pooling_refuses why
unfolding every
file_refuses file why e = one_of_more reading_refuses pooling_refuses why refl (refused_one_of file why e)

-- they are those listed for it; of them 3 and 16 alone carry a record
pub pooling_refuses_lem : (older newer : List ℕ) (room : ℕ) → Refuses pooling_refuses (pooling older newer room)
unfolding pooling
pooling_refuses_lem older newer room =
    file_either _ _ older (λ read w. Refuses pooling_refuses w) (file_refuses older)
    (λ p order items a.
    file_either _ _ newer (λ read w. Refuses pooling_refuses w) (file_refuses newer)
    (λ q others more b.
    let left = last_only q.used (items ++ more) in
    unless_refuses pooling_refuses refusal.Unlike (alike p q) (write_left room q left) refl (λ e. omega arith) (λ e. omega arith) (left_refuse room q left)))

-- ---- "the result is written as in (b)"

alike_self : (q : Parameters) → alike q q ≡ true
alike_self q = &&_true (eq-eqb q.used q.used refl) (eq-eqb (byte_of_kernel q.kernel) (byte_of_kernel q.kernel) refl)

-- two accepted files that are alike, and the items left of them
module _ (older newer : List ℕ)
    (p : Parameters) (order : List ℕ) (items : List Item) (a : reading older ≡ accepted p order items)
    (q : Parameters) (others : List ℕ) (more : List Item) (b : reading newer ≡ accepted q others more)
    (c : alike p q ≡ true) (left : List Item) (l : last_only q.used (items ++ more) ≡ left) where
  held : Writable p items
  held = accepted_writable older p order items a

  added : Writable q more
  added = accepted_writable newer q others more b

  -- what holds of each item of both files holds of each item left
  left_each : (P : Item → Type 0) → ((k : ℕ) → k < length items → P (item_in items k)) → ((k : ℕ) → k < length more → P (item_in more k))
      → (k : ℕ) → k < length left → P (item_in left k)
  left_each P olds news =
      subst (λ (list : List Item). (k : ℕ) → k < length list → P (item_in list k)) l
      (staying_all P _ (is_last q.used) (items ++ more) (each_append P _ items more olds news))

  -- each has its sixteen features, the first d in use
  pub left_sixteen : (k : ℕ) → k < length left → length (item_in left k).features ≡ feature_count
  left_sixteen = left_each (λ item. length item.features ≡ feature_count) held.sixteen added.sixteen

  pub left_features : (k : ℕ) → k < length left → features_allowed q.used (item_in left k).features ≡ true
  left_features =
      left_each (λ item. features_allowed q.used item.features ≡ true)
      (λ k h. ap (λ (d : ℕ). features_allowed d (item_in items k).features) (sym (alike_used p q c)) ∙ held.features k h) added.features

  -- where they have both labels and are not too many, they make up a file
  pub left_writable : both_labels left ≡ true → length left ≤ records_most → Writable q left
  left_writable labels most = record { parameters = added.parameters; most = most; sixteen = left_sixteen; features = left_features; labels = labels }

  -- where they are not too many, the call is that of writing their rows: the writer's own 2, 1 and 4 can't come up
  pub left_written : length left ≤ records_most → (room : ℕ) → pooling older newer room ≡ writing q (item_rows left) room
  left_written most room =
      pools_left older newer room p order items a q others more b c left l
      ∙ ap (λ t. unless refusal.Labels (both_labels left) (unless refusal.Pool t (write_into room q left))) (le-leb (length left) records_most most)
      ∙ sym (rows_tested q left room added.parameters most left_sixteen left_features)

-- ---- what is known of a file that the call has written

-- it is that of the newer file's parameters and of both files' items that stay, and is read as these
pub record Pooled (older newer file : List ℕ) : Type 0 where
  pub p : Parameters
  pub order : List ℕ
  pub items : List Item
  pub older_read : reading older ≡ accepted p order items
  pub q : Parameters
  pub others : List ℕ
  pub more : List Item
  pub newer_read : reading newer ≡ accepted q others more
  pub are_alike : alike p q ≡ true
  pub left : List Item
  pub left_is : left ≡ last_only q.used (items ++ more)
  pub is : file ≡ file_of q left
  pub read : reading file ≡ accepted q (numbers_to (length left)) left

pub pooled : (older newer : List ℕ) (room : ℕ) (file : List ℕ) → pooling older newer room ≡ wrote file → Pooled older newer file
unfolding pooling
pooled older newer room file =
    file_either _ _ older (λ read w. w ≡ wrote file → Pooled older newer file) (λ why a e. let z : ◌≡◌ {A = ℕ} 0 1 = cc in absurd (omega arith))
    (λ p order items a.
    file_either _ _ newer (λ read w. w ≡ wrote file → Pooled older newer file) (λ why b e. let z : ◌≡◌ {A = ℕ} 0 1 = cc in absurd (omega arith))
    (λ q others more b e.
    let left = last_only q.used (items ++ more) in
    let c = unless_wrote refusal.Unlike (alike p q) (write_left room q left) file e in
    let labels = unless_wrote refusal.Labels (both_labels left) _ file c.1 in
    let most = unless_wrote refusal.Pool (leb (length left) records_most) _ file labels.1 in
    let fits = unless_wrote refusal.Output (file_fits (length left) room) (wrote (file_of q left)) file most.1 in
    let is : file ≡ file_of q left = cc fits.1 in
    let sound = left_writable older newer p order items a q others more b c.0 left refl labels.0 (leb-true (length left) records_most most.0) in
    record {
      p = p;
      order = order;
      items = items;
      older_read = a;
      q = q;
      others = others;
      more = more;
      newer_read = b;
      are_alike = c.0;
      left = left;
      left_is = refl;
      is = is;
      read = ap reading is ∙ reads_back q left sound;
    }))

-- ---- a file that the call has written, pooled again

module _ (older newer : List ℕ) (room : ℕ) (file : List ℕ) (e : pooling older newer room ≡ wrote file) (room' : ℕ) (fits : length file ≤ room') where
  known : Pooled older newer file
  known = pooled older newer room file e

  -- a pool of which the same items are left, with the same parameters
  comes_again : (f g : List ℕ) (p : Parameters) (order : List ℕ) (items : List Item) → reading f ≡ accepted p order items
      → (others : List ℕ) (more : List Item) → reading g ≡ accepted known.q others more → alike p known.q ≡ true
      → last_only known.q.used (items ++ more) ≡ known.left → pooling f g room' ≡ wrote file
  comes_again f g p order items a others more b c l =
      let sound = accepted_writable file known.q _ known.left known.read in
      let size = file-length known.left (length known.left) sound.sixteen known.q in
      pools_left f g room' p order items a known.q others more b c known.left l
      ∙ left_all room' known.q known.left sound.labels
      (le-leb (length known.left) records_most sound.most)
      (le-leb (file_length (length known.left)) room' (omega (arith, size, ap length known.is)))
      ∙ ap wrote (sym known.is)

  -- the pool of the result with itself is the result, byte for byte
  pub pooled_again : pooling file file room' ≡ wrote file
  pooled_again =
      comes_again file file known.q _ known.left known.read _ known.left known.read (alike_self known.q)
      (subst (λ (left : List Item). last_only known.q.used (left ++ left) ≡ left) (sym known.left_is)
      (pool_twice known.q.used (known.items ++ known.more)))

  -- and so are that of the older file with the result, and that of the result with the newer file
  pub pooled_older : pooling older file room' ≡ wrote file
  pooled_older =
      comes_again older file known.p _ known.items known.older_read _ known.left known.read known.are_alike
      (subst (λ (left : List Item). last_only known.q.used (known.items ++ left) ≡ left) (sym known.left_is)
      (pool_older known.q.used known.items known.more))

  pub pooled_newer : pooling file newer room' ≡ wrote file
  pooled_newer =
      comes_again file newer known.q _ known.left known.read _ known.more known.newer_read (alike_self known.q)
      (subst (λ (left : List Item). last_only known.q.used (left ++ known.more) ≡ left) (sym known.left_is)
      (pool_newer known.q.used known.items known.more))
