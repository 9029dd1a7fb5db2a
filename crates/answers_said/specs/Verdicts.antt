-- What comparing the three ways came to, as it is printed.
use Rattle.std.specs.Prelude.{ℕ, ◌||◌, List, ◌++◌, eqb}
use Rattle.laws.specs.Tools.{pick}
use Rattle.verify.specs.declared.verdict.Stage.{Stage}
use Rattle.verify.specs.declared.verdict.Stage.TheVariants.{PackedList, PackedRead, NormalList, NormalRead, Letters, Decoded, LettersRead}
use Rattle.verify.specs.declared.verdict.Verdict.{Verdict}
use Rattle.verify.specs.declared.verdict.Verdict.TheVariants.{Agree, Refused, Differ}
use Rattle.answers_said.specs.Bytes.{bytes}
use Rattle.answers_said.specs.Refusals.{refusal_line}

unfoldable pub stage_line : Stage → List ℕ
stage_line PackedList = bytes "the packed list, written\n"
stage_line PackedRead = bytes "the packed list, read back\n"
stage_line NormalList = bytes "the normal list, written\n"
stage_line NormalRead = bytes "the normal list, read back\n"
stage_line Letters = bytes "the letters, written\n"
stage_line Decoded = bytes "the letters, decoded\n"
stage_line LettersRead = bytes "the decoded letters, read back\n"

-- which slice is too short
unfoldable pub room_line : Stage → List ℕ
room_line PackedList = bytes "the packed list has more steps than 9600\n"
room_line PackedRead = bytes "the packed list does not fit when it is read back\n"
room_line NormalList = bytes "the normal list has more steps than 100000\n"
room_line NormalRead = bytes "the normal list does not fit when it is read back\n"
room_line Letters = bytes "statements plus 1, times width plus 1, are more than 196608\n"
room_line Decoded = bytes "the decoded letters do not fit\n"
room_line LettersRead = bytes "the decoded letters do not fit when they are read back\n"

-- 14 and 15 speak of the slices lent
unfoldable pub refused_lines : Stage → ℕ → List ℕ
refused_lines stage number =
    pick (eqb number 14 || eqb number 15)
    (bytes "too large: " ++ room_line stage)
    ((refusal_line number ++ bytes "stage: ") ++ stage_line stage)

unfoldable pub verdict_lines : Verdict → List ℕ
verdict_lines Agree = bytes "done: normal list, packed list and letters are read back as the same entries\n"
verdict_lines (Refused stage number) = refused_lines stage number
verdict_lines (Differ stage) = bytes "differ: " ++ stage_line stage
