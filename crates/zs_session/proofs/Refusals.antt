-- Why images are refused.
use Rattle.std.proofs.Common.{◌≡◌, ◌≢◌, ◌⊎◌, inl, inr, ap, ℕ, List, length, Option, Err, refl, arith}
use Rattle.std.specs.Prelude.{IsErrOf}
use Rattle.zs_script.specs.declared.refusal.Refusal.{Refusal}
use Rattle.zs_script.specs.declared.refusal.Refusal.TheVariants.{Shape, NotBlank}
use Rattle.zs_script.specs.declared.reply.Reply.TheVariants.{Refused}
use Rattle.zs_script.specs.Texts.{reply_text, reply_lines}
use Rattle.zs_script.specs.declared.command.Line.{Line}
use Rattle.zs_session.specs.declared.end.End.{End}
use Rattle.zs_session.specs.declared.end.End.TheVariants as ends
use Rattle.zs_session.specs.declared.session.Ended.{Ended}
use Rattle.zs_session.specs.Ending.{RefusesImages, code}
use Rattle.zs_session.specs.Puts.{PutsRefusal, refused_line}
use Rattle.zs_session.proofs.Texts.{part_none}
use Rattle.zs_session.specs.Images.{AreBlank, IsSizeFault, IsImageFault}

-- a fault of the sizes of as many blank images as there should be is one of theirs
pub sized : (width blocks : ℕ) (sizes : List ℕ) (told : List (Option (List ℕ))) (fault : Refusal) → length sizes ≡ width → AreBlank sizes told → IsSizeFault blocks sizes fault → IsImageFault width blocks sizes told fault
sized width blocks sizes told Shape count blank is = absurd is
sized width blocks sizes told NotBlank count blank is = absurd is
sized width blocks sizes told fault count blank is = (count, blank, is)

-- an error stays one of a result of another type
pub same_error : {A B E : Type 0} {x z : E} → IsErrOf {T = A} {E = E} (Err x) z → IsErrOf {T = B} {E = E} (Err x) z
same_error h = cc

-- the line that tells a refusal is the text of its reply
pub refused_is : (refusal : Refusal) → reply_text 0 (Refused refusal) ≡ refused_line refusal
unfolding reply_text reply_lines refused_line
refused_is refusal = refl

-- nothing was put, which is a beginning of any line
pub refusal_none : (told : Option (List ℕ)) → PutsRefusal told told
refusal_none told = record { fault = NotBlank; part = part_none told (refused_line NotBlank) }

-- a session for which memory was wanting refuses no images
pub refuses_nothing : {D : Type 0} (lines : List Line) (size : D → ℕ) (told : D → Option (List ℕ)) (faults : D → ℕ) (before : Option (List ℕ)) (e : Ended D) → e.status ≡ 7 → RefusesImages lines size told faults before before e
refuses_nothing lines size told faults before e seven = record {
  none = λ three. absurd (omega (arith, seven, three));
  unfit = λ three. absurd (omega (arith, seven, three));
  unread = λ four none. absurd (omega (arith, seven, four));
  cut = λ none. refusal_none before;
}

-- images are not refused with the status that memory was wanting
pub refuses_with : (e : End) → (e ≡ ends.Unfit) ⊎ (e ≡ ends.Device) → code e ≢ 7
refuses_with e is seven = elim is [ inl unfit ↦ omega (arith, ap code unfit, seven) | inr device ↦ omega (arith, ap code device, seven) ]
