pub mod Conf
pub mod Printed
pub mod Thorns
