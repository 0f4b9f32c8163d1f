-- Laws of the call that writes: what it comes to by the stage that decides it. Assumes nothing.
use mathlib.Core.Path.{◌≡◌, sym, ap, ◌∙◌}
use mathlib.Core.Logic.{◌⊎◌, inl, inr}
use mathlib.Core.Bool.{Bool, true, false}
use mathlib.Core.List.{List}
use Prim.Native.Nat.{ℕ}
use Rattle.std.proofs.Common.{Ok}
use lib.Dec.{leb}
use lib.IntN.{ℤ}
use lib.ListN.{length, length-map}
use Rattle.training_file.specs.declared.parameters.Parameters.{Parameters}
use Rattle.training_file.specs.declared.refusal.Refusal.TheVariants as refusal
use Rattle.training_file.specs.Parameters.{parameters_allowed, records_most}
use Rattle.training_file.specs.declared.item.Label.TheVariants.{LookedUp}
use Rattle.training_file.specs.Item.{both_labels, labelled}
use Rattle.training_file.specs.Record.{every}
use Rattle.training_file.proofs.Laws.Item.{labels_all, labels_both, labels_none}
use Rattle.training_file.proofs.Laws.Answers.{if_ok}
use Rattle.written_file.specs.File.{file_of}
use Rattle.written_file.specs.Output.{file_fits, refused, unless, wrote}
use Rattle.writing.specs.Row.{row_allowed, row_item, row_items, rows_answer}
use Rattle.writing.specs.Writing.{writing}

-- ---- the writing by stages

module _ (p : Parameters) (rows : List (List ℤ)) (room : ℕ) where
  pub writes_2 : parameters_allowed p ≡ false → writing p rows room ≡ refused refusal.Header
  unfolding writing
  writes_2 a = rw a

  module _ (a : parameters_allowed p ≡ true) where
    pub writes_1 : leb (length rows) records_most ≡ false → writing p rows room ≡ refused refusal.FileLength
    unfolding writing
    writes_1 m = rw (a, m)

    module _ (m : leb (length rows) records_most ≡ true) where
      pub writes_4 : every (row_allowed p.used) rows ≡ false → writing p rows room ≡ refused refusal.Record
      unfolding writing
      writes_4 e = rw (a, m, e)

      module _ (e : every (row_allowed p.used) rows ≡ true) where
        pub writes_5 : both_labels (row_items rows) ≡ false → writing p rows room ≡ refused refusal.Labels
        unfolding writing
        writes_5 b = rw (a, m, e, b)

        module _ (b : both_labels (row_items rows) ≡ true) where
          -- the last test, by the number of rows
          last : {fits : Bool} → file_fits (length rows) room ≡ fits → writing p rows room ≡ unless refusal.Output fits (wrote (file_of p (row_items rows)))
          unfolding writing
          last f =
              rw (a, m, e, b)
              (ap (λ t. unless refusal.Output t (wrote (file_of p (row_items rows)))) (ap (λ (n : ℕ). file_fits n room) (length-map rows row_item) ∙ f))

          pub writes_10 : file_fits (length rows) room ≡ false → writing p rows room ≡ refused refusal.Output
          writes_10 f = last f

          pub writes_all : file_fits (length rows) room ≡ true → writing p rows room ≡ wrote (file_of p (row_items rows))
          writes_all f = last f

      -- the same by what the judging of the rows answers, the number of those looked up
      module _ (looked_up : ℕ) (answered : Ok looked_up ≡ rows_answer p.used rows) where
        judged : (every (row_allowed p.used) rows ≡ true) × (labelled LookedUp (row_items rows) ≡ looked_up)
        judged = if_ok _ _ _ looked_up (sym answered)

        pub one_label : (looked_up ≡ 0) ⊎ ((looked_up ≡ 0 → ⊥) × (looked_up ≡ length rows)) → writing p rows room ≡ refused refusal.Labels
        one_label (inl none) = writes_5 judged.0 (labels_none _ (judged.1 ∙ none))
        one_label (inr all) = writes_5 judged.0 (labels_all _ (judged.1 ∙ all.1 ∙ sym (length-map rows row_item)))

        module _ (some : looked_up ≡ 0 → ⊥) (less : looked_up ≡ length rows → ⊥) where
          both : both_labels (row_items rows) ≡ true
          both = labels_both _ (λ e. some (sym judged.1 ∙ e)) (λ e. less (sym judged.1 ∙ e ∙ length-map rows row_item))

          pub too_short : file_fits (length rows) room ≡ false → writing p rows room ≡ refused refusal.Output
          too_short = writes_10 judged.0 both

          pub fits_whole : file_fits (length rows) room ≡ true → writing p rows room ≡ wrote (file_of p (row_items rows))
          fits_whole = writes_all judged.0 both
