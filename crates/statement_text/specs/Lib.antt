pub mod Statement
pub mod Calls
pub mod Told
pub mod Printed
