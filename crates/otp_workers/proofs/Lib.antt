mod Serving
