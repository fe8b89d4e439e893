-- A model of code: the walk's steps in the code's words.
use Rattle.run_theory.specs.PlainRun as Plain
use Rattle.run_booking.specs.declared.Kind as Kind

-- what step 4 makes of a draw, case by case
unfoldable pub kind_seen : Plain.Kind → Kind.Kind
kind_seen Plain.ignored = Kind.TheVariants.Ignored
kind_seen Plain.ends = Kind.TheVariants.Ends
kind_seen (Plain.reply first) = Kind.TheVariants.Reply
