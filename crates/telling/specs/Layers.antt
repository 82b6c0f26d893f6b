-- What an account calls the layers.
-- Assumes nothing.
use Rattle.std.specs.Prelude.{ℕ, List, codes}
use Rattle.words.specs.declared.fault.Layer.{Layer}
use Rattle.words.specs.declared.fault.Layer.TheVariants.{File, Task, Bank, Run}

-- the part of the check that refuses
abbrev pub layer_words : Layer → List ℕ
layer_words File = codes "the file"
layer_words Task = codes "the task"
layer_words Bank = codes "the states"
layer_words Run = codes "the run"
