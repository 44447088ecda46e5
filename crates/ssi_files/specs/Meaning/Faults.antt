-- Which reason an error of the system gives.
use Rattle.std.specs.IoError.{error_kind}
use Rattle.std.specs.declared.io.Error.{Error}
use Rattle.std.specs.declared.io.ErrorKind.{ErrorKind}
use Rattle.std.specs.declared.io.ErrorKind.TheVariants.{NotADirectory, OutOfMemory, PermissionDenied}
use Rattle.ssi_files.specs.declared.fault.FolderFault.{FolderFault}
use Rattle.ssi_files.specs.declared.fault.FolderFault.TheVariants.{Memory, NoRight, NotAFolder, System}

abbrev pub reason_by_kind : ErrorKind → Error → FolderFault
reason_by_kind NotADirectory error = NotAFolder
reason_by_kind PermissionDenied error = NoRight
reason_by_kind OutOfMemory error = Memory
reason_by_kind _ error = System error

abbrev pub reason_of : Error → FolderFault
reason_of error = reason_by_kind (error_kind error) error
