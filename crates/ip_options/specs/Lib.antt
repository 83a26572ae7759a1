pub mod IpOptions
