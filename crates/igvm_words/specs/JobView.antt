-- A job and its words as the code lends them.
use Rattle.std.specs.Prelude.{ℕ, List, map, String, string_bytes}
use Rattle.std.specs.Option.{option_map}
use Rattle.std.specs.declared.alloc.Global.{Global}
use Rattle.igvm_words.specs.declared.job.Job as code
use Rattle.igvm_words.specs.declared.job.Job.TheVariants as is
use Rattle.igvm_words.specs.declared.job.MeasureWords as measure
use Rattle.igvm_words.specs.declared.job.LoadWords as load
use Rattle.igvm_words.specs.declared.platform_choice.PlatformChoice as platform
use Rattle.igvm_words.specs.declared.platform_choice.PlatformChoice.TheVariants as by
use Rattle.igvm_words.specs.Words.{Job, Build, Print, Measure, MeasureWords, Load, LoadWords, Make, PlatformChoice, First, Numbered}

-- words, as their bytes
abbrev pub words_view : List (String Global) → List (List ℕ)
words_view words = map (λ word. string_bytes word) words

-- the platform that is asked for
abbrev pub choice_view : platform.PlatformChoice → PlatformChoice
choice_view (by.First kind) = First kind
choice_view (by.Numbered number) = Numbered number

-- what a measurement is asked for
abbrev pub measure_view : measure.MeasureWords → MeasureWords
measure_view words = record { file = words.file.now; wanted = choice_view words.wanted; options = words.options }

-- what a load is asked for
abbrev pub load_view : load.LoadWords → LoadWords
load_view words =
    record {
      file = words.file.now;
      host = words.host.now;
      wanted = choice_view words.wanted;
      options = words.options;
      image = option_map (λ name. name.now) words.image;
    }

-- a job
abbrev pub job_view : code.Job → Job
job_view (is.Build list target) = Build list.now target.now
job_view (is.Print file) = Print file.now
job_view (is.Measure words) = Measure (measure_view words)
job_view (is.Load words) = Load (load_view words)
job_view (is.Make count target) = Make count target.now
