-- Laws of a call that writes a file: with which numbers it refuses, what it answers, and the bytes that it leaves. Assumes nothing.
use mathlib.Core.Path.{◌≡◌, refl, sym, ◌∙◌, ap}
use mathlib.Core.Logic.{◌≢◌}
use mathlib.Core.Bool.{Bool, true, false}
use mathlib.Core.List.{List, ◌++◌}
use Prim.Native.Nat.{ℕ, ◌≤◌}
use native.Mathlib.Omega.{arith}
use lib.ListN.{length, drop}
use Rattle.std.proofs.Common.{Result, Ok, Err}
use Rattle.integers.specs.Member.{member}
use Rattle.buffer.specs.declared.put.Cursor.{Cursor}
use Rattle.buffer.specs.Put.{Put}
use Rattle.buffer.proofs.Laws.Put.{put_all}
use Rattle.training_file.specs.declared.refusal.Refusal.{Refusal}
use Rattle.training_file.specs.Refusal.{number_of}
use Rattle.training_file.specs.Answers.{ok_if}
use Rattle.training_file.proofs.Laws.Refusal.{one_of_alone}
use Rattle.training_file.proofs.Laws.Answers.{if_refused}
use Rattle.written_file.specs.Output.{Refuses, Writing, output_after, refused, unless, wrote, written_answer}

pub unless_refuses : (numbers : List ℕ) (why : Refusal) (test : Bool) (rest : Writing) → member (number_of why) numbers ≡ true
    → number_of why ≢ 3 → number_of why ≢ 16 → Refuses numbers rest → Refuses numbers (unless why test rest)
unless_refuses numbers why true rest e not-3 not_16 h = h
unless_refuses numbers why false rest e not-3 not_16 h = one_of_alone numbers why e not-3 not_16

-- where a file was written, each test was passed
pub unless_wrote : (why : Refusal) (test : Bool) (rest : Writing) (file : List ℕ) → unless why test rest ≡ wrote file → (test ≡ true) × (rest ≡ wrote file)
unless_wrote why true rest file e = (refl, e)
unless_wrote why false rest file e = let z : ◌≡◌ {A = ℕ} 0 1 = cc in absurd (omega arith)

-- ---- what a call answers and leaves that comes to w

module _ (w : Writing) (output : List ℕ) where
  abbrev pub Comes : Result ℕ Refusal → List ℕ → Type 0
  Comes answer after = (answer ≡ written_answer w) × (after ≡ output_after w output)

  -- a refusal, and one that a stage answers and that is passed on: the output is as it was
  pub refuses : (why : Refusal) → w ≡ refused why → Comes (Err why) output
  refuses why e = (sym (ap written_answer e), sym (ap (λ x. output_after x output) e))

  pub passes_on : {A : Type 0} (test : Bool) (value : A) (why : Refusal) {answer : Result A Refusal} {told : Refusal}
      → answer ≡ ok_if test value why → answer ≡ Err told → (test ≡ false → w ≡ refused why) → Comes (Err told) output
  passes_on {A} test value why {told = told} answered is e =
      let fails = if_refused test value why told (sym answered ∙ is) in
      let same : ◌≡◌ {A = Result A Refusal} (Err told) (Err why) = sym is ∙ answered ∙ ap (λ t. ok_if t value why) fails in
      let left : w ≡ refused why = e fails in
      refuses told (left ∙ cc)

-- a file that is put at the output's start
pub writes : (w : Writing) (file : List ℕ) {before after : Cursor} {answer : Result ℕ Refusal} → before.at ≡ 0 → length file ≤ length before.bytes.now
    → Put file before after → w ≡ wrote file → answer ≡ Ok (length file) → Comes w before.bytes.now answer after.bytes.now
writes w file {before} start fits put e answered =
    let all = put_all start fits put in (
      answered ∙ sym (ap written_answer e),
      all.1 ∙ ap (λ (k : ℕ). file ++ drop k before.bytes.now) all.0 ∙ sym (ap (λ x. output_after x before.bytes.now) e),
    )
