use Rattle.words.proofs.Encoding.{file_laws}
use Rattle.words.proofs.file.files_give_back.Goals as goal

pub returns : goal.returns
returns c = file_laws
