-- The definition's settings and answers in the form in which they cross to C: structs of numbers and booleans, `include/pyltarka.h`.
-- `number` is 0 or the refusal, and what an answer does not tell is zero: on a refusal all but the number.
use Rattle.std.specs.Prelude.{ℕ, Bool, false, true, cond, eqb}
use Rattle.definition.specs.declared.Settings.{Settings}
use Rattle.definition.specs.Answers.{Answer, refusal, at, accepted, count, last_reference_answer, found, content, members}
use Rattle.definition.specs.Calls.{content_start}
use Rattle.station.specs.declared.answers.PyltarkaSettings.{PyltarkaSettings}
use Rattle.station.specs.declared.answers.PyltarkaInserted.{PyltarkaInserted}
use Rattle.station.specs.declared.answers.PyltarkaChanged.{PyltarkaChanged}
use Rattle.station.specs.declared.answers.PyltarkaRecord.{PyltarkaRecord}
use Rattle.station.specs.declared.answers.PyltarkaPart.{PyltarkaPart}
use Rattle.station.specs.declared.answers.PyltarkaCounted.{PyltarkaCounted}

-- the table's settings
abbrev pub settings_of : PyltarkaSettings → Settings
settings_of s = record { size = s.entry_size; multipart = s.multipart; counted = s.counted; keyed = s.keyed }

-- all that an answer can tell: the refusal's number, the head's slot, a count, whether it was the last reference, the content's
-- length, the compressed mark, the slots visited
pub record Told : Type 0 where
  pub number : ℕ
  pub slot : ℕ
  pub count : ℕ
  pub last : Bool
  pub len : ℕ
  pub mark : Bool
  pub visits : ℕ

abbrev pub tells : ℕ → ℕ → ℕ → Bool → ℕ → Bool → ℕ → Told
tells n h c l k m v = record { number = n; slot = h; count = c; last = l; len = k; mark = m; visits = v }

-- what each answer tells; a content is handed over as its place, which is no part of the answer
abbrev pub told : Answer → Told
told (refusal n) = tells n 0 0 false 0 false 0
told (at h) = tells 0 h 0 false 0 false 0
told accepted = tells 0 0 0 false 0 false 0
told (count c) = tells 0 0 c false 0 false 0
told last_reference_answer = tells 0 0 0 true 0 false 0
told (found k m c v) = tells 0 0 c false k m v
told (content l) = tells 0 0 0 false 0 false 0
told (members n) = tells 0 0 n false 0 false 0

-- replace and remove: the number alone
abbrev pub number_in : Answer → ℕ
number_in a = (told a).number

abbrev pub inserted_in : Answer → PyltarkaInserted
inserted_in a = record { slot = (told a).slot; number = (told a).number }

abbrev pub changed_in : Answer → PyltarkaChanged
changed_in a = record { number = (told a).number; count = (told a).count; last_reference = (told a).last }

-- the copying read
abbrev pub record_in : Answer → PyltarkaRecord
record_in a = record { length = (told a).len; visits = (told a).visits; number = (told a).number; count = (told a).count; mark = (told a).mark }

-- the fixed read of slot h: the same, and where its content starts if it is not refused
abbrev pub part_in : Settings → ℕ → Answer → PyltarkaPart
part_in s h a =
    record {
      offset = cond (eqb (told a).number 0) (content_start s h) 0;
      length = (told a).len;
      visits = (told a).visits;
      number = (told a).number;
      count = (told a).count;
      mark = (told a).mark;
    }

abbrev pub counted_in : Answer → PyltarkaCounted
counted_in a = record { count = (told a).count; number = (told a).number }
